-- `new_branch` meets its contract: both checks are the definition's; then the mark is set and the block placed.
-- Assumes nothing.
use Rattle.std.proofs.Common.{refl, sym}
use Rattle.reply.proofs.Asked.{seen, cells}
use Rattle.reply.proofs.Answered.{tested, absent, changed, accepted}
use Rattle.declare.proofs.Can.{can_place}
use Rattle.declare.proofs.new_branch.Goals as goal

pub returns-in_err-block : goal.returns-in_err-block
returns-in_err-block c = λ t h. let p = c.in_err-block.ensures in rw (p.missed _ t.form (seen h)) (absent h _ _ c.from_residual.ensures.1 p.absent)

pub place_block-requires : goal.place_block-requires
place_block-requires c = let p = c.requires in (_, can_place p.1 p.0.form refl (cells p.1) _ c.in_ok-block.ensures.small)

pub returns : goal.returns
returns c =
    λ t h.
    let p = c.in_ok-block.ensures in
    rw (← p.same, p.there _ t.form (seen h), tested (c.has_branch.ensures _ (seen h)) c.if-has_branch.false)
    (accepted _ _ c.accept.ensures (sym p.same)
    (changed h refl refl (c.declare_branch.ensures _ (seen h)) (c.place_block.ensures _ (can_place h t.form refl (cells h) _ p.small))))
