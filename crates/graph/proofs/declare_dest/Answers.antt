-- `declare_dest` meets its contract: the push changes the branch's row alone.
-- Assumes nothing.
use Rattle.graph.proofs.Changes.{dest_room, dest_declared}
use Rattle.graph.proofs.declare_dest.Goals as goal

pub push-requires : goal.push-requires
push-requires c = let p = c.requires in dest_room _ p.graph_with.1 p.branch_lt_blocks c.dests_at.ensures

pub returns : goal.returns
returns c = λ g s. rw c.push.ensures (dest_declared _ s c.requires.branch_lt_blocks c.dests_at.ensures _)
