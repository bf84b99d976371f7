-- `run_state_machine` meets its contract. The loop's invariant: the cells show a configuration from which the run ends as it is to.
-- The measure is what is scheduled, and what could still be: each turn lowers it.
-- Assumes nothing.
use Rattle.std.proofs.Common.{[], refl}
use Rattle.ssa.proofs.Runs.{turn_can, runs_next, run_falls, take_can, one_held, ran}
use Rattle.ssa.proofs.run_state_machine.Goals as goal

pub step-d-requires : goal.step-d-requires
step-d-requires c = let p = c.requires in (p.0, _, _, _, _, turn_can c.loop-d.invariant p.4 c.loop-d-test.true)

pub loop-d-smaller : goal.loop-d-smaller
loop-d-smaller c = run_falls c.loop-d.invariant c.requires.4 c.loop-d-test.true c.step-d.ensures

pub loop-d-preserved : goal.loop-d-preserved
loop-d-preserved c = runs_next c.loop-d.invariant c.loop-d-test.true c.step-d.ensures

pub result-val-requires-clause-some : goal.result-val-requires-clause-some
result-val-requires-clause-some c = ([], _, take_can c.loop-d.invariant c.requires.4 c.loop-d-test.false)

pub pop_results-requires : goal.pop_results-requires
pop_results-requires c = one_held c.loop-d.invariant c.requires.4 c.loop-d-test.false

pub returns : goal.returns
returns c = λ g k x s h. ran c.loop-d.invariant h c.loop-d-test.false c.result-val.ensures _ refl c.pop_results.ensures
