-- `drop_pred` meets its contract: the checks are the definition's, in its order, and the place answered is the one that the branch had.
-- Assumes nothing.
use Rattle.std.proofs.Common.{refl}
use Rattle.reply.specs.declared.Refusal.{Refusal}
use Rattle.reply.proofs.Asked.{seen, cells}
use Rattle.reply.proofs.Answered.{tested, refused, changed, accepted}
use Rattle.connect.proofs.Checks.{refused_by}
use Rattle.connect.proofs.drop_pred.Goals as goal

pub returns-in_err-block : goal.returns-in_err-block
returns-in_err-block c = λ fl t h. refused_by h _ _ c.from_residual.ensures.1 (c.in_err-block.ensures.d_value _ t.form (seen h) _)

pub returns-then-not-is_predecessor : goal.returns-then-not-is_predecessor
returns-then-not-is_predecessor c =
    λ fl t h.
    let p = c.in_ok-block.ensures in
    rw (← p.d_value _ t.form (seen h) _, ← p.block.0, ← p.branch.0, tested (c.is_predecessor.ensures _ (seen h)) c.if-not-is_predecessor.true)
    (refused h Refusal.Unrelated refl)

pub returns : goal.returns
returns c =
    λ fl t h.
    let p = c.in_ok-block.ensures in
    let there = tested (c.is_predecessor.ensures _ (seen h)) c.if-not-is_predecessor.false in
    let removed = c.remove_block_predecessor-place.ensures _ (record { seen = seen h; there = there }) in
    rw (← p.d_value _ t.form (seen h) _, ← p.block.0, ← p.branch.0, there) (accepted _ _ c.accept.ensures removed.0 (changed h refl refl removed.1 (cells h)))
