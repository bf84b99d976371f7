-- `run` meets its contract: after i turns the cells show the session of the first i calls, and at last the stacks' cells are cleared.
-- Assumes nothing.
use Rattle.turns.proofs.Runs.{Running}
use Rattle.turns.proofs.run.Given as goal

abbrev pub invariant-loop-i : goal.invariant-loop-i
invariant-loop-i l = Running l.asked l.initial.answers l.answers l.graph l.form l.work l.c l.i
