-- `run_state_machine` meets its contract. The loop's invariant: the cells show a configuration from which the run ends as it is to.
-- The measure is what is scheduled, and what could still be: each turn lowers it.
-- Assumes nothing.
use Rattle.std.proofs.Common.{◌+◌}
use Rattle.ssa.proofs.Runs.{to_come, Running}
use Rattle.ssa.proofs.run_state_machine.Given as goal

abbrev pub invariant-loop-d : goal.invariant-loop-d
invariant-loop-d l =
    Running l.graph l.initial.form l.initial.work l.initial.d l.var.0 l.ty l.form l.work l.d

abbrev pub decreases-loop-d : goal.decreases-loop-d
decreases-loop-d l = l.d.calls + to_come l.graph l.form l.var.0
