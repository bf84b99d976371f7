-- `remove_block_param` meets its contract: the row without the value is the list without it.
-- Assumes nothing.
use Rattle.form.proofs.Params.{params_readable, param_removed}
use Rattle.form.proofs.remove_block_param.Goals as goal

pub remove-requires : goal.remove-requires
remove-requires c = rw c.params_at.ensures (params_readable _ _ c.requires.0 c.requires.1)

pub returns : goal.returns
returns c = λ s p. param_removed _ _ s p _ _ (rw c.params_at.ensures at c.remove.ensures)
