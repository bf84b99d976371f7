-- `add_pred` meets its contract: the checks are the definition's, in its order, and the count after is one more.
-- Assumes nothing.
use Rattle.std.proofs.Common.{arith, refl}
use Rattle.reply.specs.declared.Refusal.{Refusal}
use Rattle.reply.proofs.Asked.{seen, cells}
use Rattle.reply.proofs.Answered.{tested, refused, changed, accepted}
use Rattle.connect.proofs.Checks.{refused_by}
use Rattle.connect.proofs.add_pred.Goals as goal

pub returns-in_err-block : goal.returns-in_err-block
returns-in_err-block c = λ fl t h. refused_by h _ _ c.from_residual.ensures.1 (c.in_err-block.ensures.d_value _ t.form (seen h) _)

pub returns-then-not-names : goal.returns-then-not-names
returns-then-not-names c =
    λ fl t h.
    let p = c.in_ok-block.ensures in
    rw (← p.d_value _ t.form (seen h) _, ← p.block.0, ← p.branch.0, tested (c.names.ensures _ (seen h)) c.if-not-names.true) (refused h Refusal.Unrelated refl)

pub returns-then-is_predecessor : goal.returns-then-is_predecessor
returns-then-is_predecessor c =
    λ fl t h.
    let p = c.in_ok-block.ensures in
    rw (
      ← p.d_value _ t.form (seen h) _,
      ← p.block.0,
      ← p.branch.0,
      tested (c.names.ensures _ (seen h)) c.if-not-names.false,
      tested (c.is_predecessor.ensures _ (seen h)) c.if-is_predecessor.true,
    )
    (refused h Refusal.DeclaredHere refl)

pub returns : goal.returns
returns c =
    λ fl t h.
    let p = c.in_ok-block.ensures in
    let new = tested (c.is_predecessor.ensures _ (seen h)) c.if-is_predecessor.false in
    rw (← p.d_value _ t.form (seen h) _, ← p.block.0, ← p.branch.0, tested (c.names.ensures _ (seen h)) c.if-not-names.false, new)
    (accepted _ _ c.accept.ensures (omega (arith, c.predecessor_count-n.ensures.value _ (seen h)))
    (changed h refl refl (c.declare_block_predecessor.ensures _ (record { seen = seen h; new = new })) (cells h)))
