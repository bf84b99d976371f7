-- `mark_var_needs_stack_map` meets its contract: both checks are the definition's, since a definition stands in a block that is there; then the mark is set.
-- Assumes nothing.
use Rattle.std.proofs.Common.{refl, sym, ap, ◌∙◌}
use Rattle.reply.specs.declared.Refusal.{Refusal}
use Rattle.form.proofs.Defined.{defined}
use Rattle.reply.proofs.Asked.{seen, cells}
use Rattle.reply.proofs.Answered.{tested, refused, absent, changed, accepted}
use Rattle.declare.proofs.Can.{has_defs}
use Rattle.declare.proofs.mark_var_needs_stack_map.Goals as goal

pub returns-in_err-var : goal.returns-in_err-var
returns-in_err-var c = λ t h. let v = c.in_err-var.ensures in rw (v.missed _ t.form (seen h)) (absent h _ _ c.from_residual.ensures.1 v.absent)

pub is_defined-requires : goal.is_defined-requires
is_defined-requires c = (_, has_defs c.requires.1 _ _ c.in_ok-var.ensures.small c.block_count-n.ensures.upper_bound)

pub returns-then-is_defined : goal.returns-then-is_defined
returns-then-is_defined c =
    let n = c.block_count-n.ensures in
    let v = c.in_ok-var.ensures in
    λ t h.
    let d = c.is_defined.ensures _ (has_defs h _ _ v.small n.upper_bound) in
    let all = ap (defined t.form c.in_ok-var.var.0) (n.value _ (seen h)) in
    rw (← v.same, v.there _ t.form (seen h), tested (d ∙ all) c.if-is_defined.true) (refused h Refusal.Defined refl)

pub returns : goal.returns
returns c =
    let n = c.block_count-n.ensures in
    let v = c.in_ok-var.ensures in
    λ t h.
    let d = c.is_defined.ensures _ (has_defs h _ _ v.small n.upper_bound) in
    let all = ap (defined t.form c.in_ok-var.var.0) (n.value _ (seen h)) in
    rw (← v.same, v.there _ t.form (seen h), tested (d ∙ all) c.if-is_defined.false)
    (accepted _ _ c.accept.ensures (sym v.same) (changed h refl refl (c.mark_variable.ensures _ (seen h)) (cells h)))
