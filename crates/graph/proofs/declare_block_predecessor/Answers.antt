-- `declare_block_predecessor` meets its contract: the push changes the block's row alone, and that has room, since its entries are blocks, without repeats, and
-- not yet this one; the store changes the branch's mark alone.
-- Assumes nothing.
use Rattle.graph.proofs.Changes.{predecessor_room, predecessor_declared}
use Rattle.graph.proofs.declare_block_predecessor.Goals as goal

pub push-requires : goal.push-requires
push-requires c = let p = c.requires in predecessor_room _ p.block_lt_blocks c.preds_at.ensures _ p.graph_with.1 p.branch_lt_blocks

pub returns : goal.returns
returns c = λ g s. let p = c.requires in rw c.push.ensures (predecessor_declared _ p.block_lt_blocks c.preds_at.ensures _ s p.branch_lt_blocks)
