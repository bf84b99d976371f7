-- `resolve` meets its contract: each turn so far walked one step on, `at` is where they lead, and none of them started at an end.
-- Assumes nothing.
use Rattle.alias.proofs.Walks.{Walked}
use Rattle.alias.proofs.resolve.Given as goal

abbrev pub invariant-loop-steps : goal.invariant-loop-steps
invariant-loop-steps l = Walked l.targets l.initial.at l.at l.steps
