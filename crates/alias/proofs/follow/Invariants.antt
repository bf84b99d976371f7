-- `follow` meets its contract: the walks from `value` and from `at` end at the same value, and the links left from `at` fall with each turn.
-- Assumes nothing.
use Rattle.std.proofs.Common.{length}
use Rattle.alias.proofs.Walks.{links_left, SameEnd}
use Rattle.alias.proofs.follow.Given as goal

abbrev pub invariant-loop-at : goal.invariant-loop-at
invariant-loop-at l = SameEnd l.targets l.initial.at l.at

abbrev pub decreases-loop-at : goal.decreases-loop-at
decreases-loop-at l = links_left (length l.targets) l.targets l.at
