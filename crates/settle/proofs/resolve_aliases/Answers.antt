-- `resolve_aliases` meets its contract: the part lent to `alias::follow` is the form's list of targets, over which every chain ends.
-- Assumes nothing.
use Rattle.settle.proofs.Resolves.{part_ends, resolved}
use Rattle.settle.proofs.resolve_aliases.Goals as goal

pub follow-requires : goal.follow-requires
follow-requires c = let p = c.requires in part_ends _ _ _ p.0 p.1

pub returns-clause-result_bound : goal.returns-clause-result_bound
returns-clause-result_bound c = let p = c.requires in (resolved _ _ _ p.0 p.1 c.follow.ensures).0

pub returns-clause-result_value : goal.returns-clause-result_value
returns-clause-result_value c = let p = c.requires in λ s h. (resolved _ _ _ s h c.follow.ensures).1
