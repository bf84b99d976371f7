-- `answered` meets its contract: the three lists hold what was done before place i, so the use at place y is read off them.
-- Assumes nothing.
use Rattle.std.proofs.Common.{arith, eq-eqb, ne_eqb, ◌<◌, get_or, refl, sym, ◌∙◌}
use lib.Seq.{get_or-take, length-take-le}
use Rattle.turns.proofs.Told.{not_yet, the_use}
use Rattle.turns.proofs.lists.Answers.answered.Goals as goal
use Rattle.turns.proofs.lists.Answers.answered.Goals.{then-kind-number, else-kind-number}

pub returns-in_err-kind : goal.returns-in_err-kind
returns-in_err-kind c =
    let before = length-take-le c.args.i c.args.kinds.now (omega (arith, c.requires.0)) in
    λ ds h e. rw c.from_residual.ensures (not_yet ds e (omega (arith, before, c.in_err-kind.ensures.lookup.3)))

pub returns : goal.returns
returns c =
    let a = c.args in
    let before = length-take-le a.i a.kinds.now (omega (arith, c.requires.0)) in
    let found = c.in_ok-kind.ensures.lookup.3 in
    let lt : a.y < a.i = omega (arith, before, found.0) in
    let kind = found.1 0 ∙ get_or-take a.i a.kinds.now a.y 0 lt in
    λ ds h e.
    rw c.then_some.ensures (the_use h (omega (arith, lt, e)) _ (elim c.if-kind-number.branch [
      | then-kind-number w ↦ rw (w.then_some-is, eq-eqb (get_or a.kinds.now a.y 0) 6 (sym kind ∙ w.if-kind-number.true ∙ c.number.ensures)) refl
      | else-kind-number w ↦ rw (
        w.then_some-is,
        ne_eqb c.in_ok-kind.field-0.now c.number.result w.if-kind-number.false,
        ne_eqb (get_or a.kinds.now a.y 0) 6
            (λ q. w.if-kind-number.false (kind ∙ q ∙ sym c.number.ensures)),
      ) refl
    ]))
