-- A place that is its own target ends the walk; any other has one link fewer left.
-- Assumes nothing.
use Rattle.alias.proofs.Walks.{same_end_here, fewer_links_left}
use Rattle.alias.proofs.follow.Goals as goal

pub returns-then-place-at : goal.returns-then-place-at
returns-then-place-at c = same_end_here c.loop-at.invariant c.if-place-at.true

pub loop-at-smaller : goal.loop-at-smaller
loop-at-smaller c = fewer_links_left c.loop-at.invariant c.if-place-at.false
