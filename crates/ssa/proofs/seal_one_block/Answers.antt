-- `seal_one_block` meets its contract: the marked cells still show a graph, since the block is there.
-- Assumes nothing.
use Rattle.std.proofs.Common.{sym, ◌∙◌}
use Rattle.ssa.proofs.Uses.{seen_of}
use Rattle.ssa.proofs.Seals.{sealed_seen}
use Rattle.ssa.proofs.seal_one_block.Goals as goal

pub invariant_of-settle_pending : goal.invariant_of-settle_pending
invariant_of-settle_pending c =
    let p = c.requires in
    let seen = seen_of p.2.rest.graph p.2.rest.steady in
    (_, sealed_seen p.2 (sym (c.is_sealed.ensures _ seen) ∙ c.if-is_sealed.false) (c.mark_sealed.ensures _ seen))
