-- `record_def` meets its contract: the cell stored is that of the variable and the block, whichever of its two meanings it has.
-- Assumes nothing.
use Rattle.form.proofs.Variables.{definition_recorded}
use Rattle.form.proofs.record_def.Goals as goal

pub returns : goal.returns
returns c = rw c.def_at.ensures (definition_recorded _ _ _ _)
