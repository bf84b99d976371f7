-- `use_var` meets its contract: a definition in the block is the answer, and otherwise a run from the first visit on ends with it.
-- Assumes nothing.
use Rattle.std.proofs.Common.{refl}
use Rattle.ssa.proofs.Uses.{use_run, has_read}
use Rattle.ssa.proofs.use_var.Goals as goal

pub run_state_machine-requires : goal.run_state_machine-requires
run_state_machine-requires c = let p = c.requires in (p.0, _, _, _, use_run p.2 c.variable_type-ty.ensures c.from.ensures c.push_call-d.ensures)

pub returns : goal.returns
returns c =
    λ g s h.
    has_read h c.variable_type-ty.ensures c.from.ensures c.push_call-d.ensures (c.run_state_machine.ensures g _ _ _ (use_run h c.variable_type-ty.ensures c.from.ensures c.push_call-d.ensures))
    _ refl c.with_values.ensures
