-- `predecessors_lookup` meets its contract: the scheduled calls are the start of a run, which ends with what filling the parameter does.
-- Assumes nothing.
use Rattle.std.proofs.Common.{[]}
use Rattle.ssa.proofs.Uses.{type_can, begin_can, fill_run, has_filled}
use Rattle.ssa.proofs.predecessors_lookup.Goals as goal

pub begin_predecessors_lookup-d-requires : goal.begin_predecessors_lookup-d-requires
begin_predecessors_lookup-d-requires c = let p = c.requires in (p.0, [], [], begin_can p.2)

pub run_state_machine-requires : goal.run_state_machine-requires
run_state_machine-requires c = let p = c.requires in (p.0, _, _, _, fill_run p.2 c.variable_type-ty.ensures c.begin_predecessors_lookup-d.ensures)

pub returns : goal.returns
returns c =
    λ g s h.
    let S = c.begin_predecessors_lookup-d.ensures in
    has_filled h c.variable_type-ty.ensures S (c.run_state_machine.ensures g _ _ _ (fill_run h c.variable_type-ty.ensures S)) c.with_values.ensures

pub variable_type-ty-requires : goal.variable_type-ty-requires
variable_type-ty-requires c = type_can c.requires.2
