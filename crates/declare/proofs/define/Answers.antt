-- `define` meets its contract: the checks are the definition's, the mark of a branch that was declared last; the store is its `write`, and the value is
-- recorded for stack maps if the variable is marked.
-- Assumes nothing.
use Rattle.std.proofs.Common.{ℕ, false, ◌≡◌, eq-eqb, ne_eqb, ◌<◌, refl, sym, ◌∙◌}
use borrow.Author.Tests.{lt-leb}
use Rattle.definition.specs.Form.{Graph, Form}
use Rattle.definition.specs.Read.{type_of, write, record_binding}
use Rattle.definition.specs.Session.{no_var, no_block, define, ok, refuse◌when◌else◌}
use Rattle.reply.specs.declared.Refusal.{Refusal}
use Rattle.reply.proofs.Asked.{seen, below_next}
use Rattle.reply.proofs.Answered.{tested, refused, absent, changed, accepted}
use Rattle.declare.proofs.Can.{has_value, value_typed, has_def, has_written}
use Rattle.declare.proofs.define.Goals as goal

pub returns-in_err-var : goal.returns-in_err-var
returns-in_err-var c = λ t h. let v = c.in_err-var.ensures in rw (v.missed _ t.form (seen h)) (absent h _ _ c.from_residual.ensures.1 v.absent)

pub returns-in_err-block : goal.returns-in_err-block
returns-in_err-block c =
    λ t h.
    let v = c.in_ok-var.ensures in
    let x = c.in_ok-val.ensures in
    let p = c.in_err-block.ensures in
    rw (← v.same, ← x.0, v.there _ t.form (seen h), lt-leb t.form.next _ (below_next h _ x.1), p.missed _ t.form (seen h))
    (absent h _ _ c.from_residual-in_err-block.ensures.1 p.absent)

pub value_type-requires : goal.value_type-requires
value_type-requires c = let p = c.requires in (_, has_value p.1 _ (below_next p.1 _ c.in_ok-val.ensures.1))

pub returns-then-value_type-variable_type : goal.returns-then-value_type-variable_type
returns-then-value_type-variable_type c =
    λ t h.
    let v = c.in_ok-var.ensures in
    let x = c.in_ok-val.ensures in
    let p = c.in_ok-block.ensures in
    let l = below_next h _ x.1 in
    rw (
      ← v.same,
      ← x.0,
      ← p.same,
      v.there _ t.form (seen h),
      lt-leb t.form.next _ l,
      p.there _ t.form (seen h),
      ← c.value_type.ensures.1 _ (has_value h _ l) (value_typed h _ l),
      ← c.variable_type.ensures _ (seen h),
      ne_eqb _ _ c.if-value_type-variable_type.true,
    )
    (refused h Refusal.OtherType refl)

-- past the types the mark of the block's branch alone decides
mark_decides : (g : Graph) (s : Form) (v x b : ℕ) {k l : ℕ} → no_var g s v ≡ false → x < s.next → no_block g s b ≡ false
    → k ≡ (s.info x).type → l ≡ type_of g v → k ≡ l → define g s v x b ≡ (refuse 20 when g.declared b else ok x g (record_binding g v x (write v b x s)))
mark_decides g s v x b p low q u w e = rw (p, lt-leb s.next x low, q, eq-eqb (s.info x).type (type_of g v) (tested u e ∙ w)) refl

pub returns-then-ever_declared : goal.returns-then-ever_declared
returns-then-ever_declared c =
    λ t h.
    let v = c.in_ok-var.ensures in
    let x = c.in_ok-val.ensures in
    let p = c.in_ok-block.ensures in
    let l = below_next h _ x.1 in
    let decided = mark_decides t.graph t.form _ _ _ (v.there _ t.form (seen h)) l (p.there _ t.form (seen h))
    (c.value_type.ensures.1 _ (has_value h _ l) (value_typed h _ l)) (c.variable_type.ensures _ (seen h)) c.if-value_type-variable_type.false in
    rw (← v.same, ← x.0, ← p.same, decided, tested (rw c.from.ensures at (c.ever_declared.ensures _ (seen h))) c.if-ever_declared.true)
    (refused h Refusal.Late refl)

pub record_def-requires-clause-ex : goal.record_def-requires-clause-ex
record_def-requires-clause-ex c = (_, has_def c.requires.1 _ _ c.in_ok-var.ensures.small c.in_ok-block.ensures.small)

pub record_stack_map_binding-requires : goal.record_stack_map_binding-requires
record_stack_map_binding-requires c =
    let h = c.requires.1 in (
      _,
      has_written h _ _ _ (below_next h _ c.in_ok-val.ensures.1)
          (c.record_def.ensures.own _ (has_def h _ _ c.in_ok-var.ensures.small c.in_ok-block.ensures.small)),
    )

pub returns : goal.returns
returns c =
    λ t h.
    let v = c.in_ok-var.ensures in
    let x = c.in_ok-val.ensures in
    let p = c.in_ok-block.ensures in
    let l = below_next h _ x.1 in
    let decided = mark_decides t.graph t.form _ _ _ (v.there _ t.form (seen h)) l (p.there _ t.form (seen h))
    (c.value_type.ensures.1 _ (has_value h _ l) (value_typed h _ l)) (c.variable_type.ensures _ (seen h)) c.if-value_type-variable_type.false in
    rw (← v.same, ← x.0, ← p.same, decided, tested (rw c.from.ensures at (c.ever_declared.ensures _ (seen h))) c.if-ever_declared.false)
    (accepted _ _ c.accept.ensures (sym x.0) (changed h refl refl (seen h).cells
    (c.record_stack_map_binding.ensures t.graph _ (c.is_marked.ensures _ (seen h)) _
    (has_written h _ _ _ l (c.record_def.ensures.own _ (has_def h _ _ v.small p.small))) (value_typed h _ l))))
