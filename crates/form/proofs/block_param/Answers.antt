-- `block_param` meets its contract: the cell read is that of the place in the block's row.
-- Assumes nothing.
use Rattle.form.proofs.Params.{param_is}
use Rattle.form.proofs.block_param.Goals as goal

pub returns : goal.returns
returns c = λ s p. rw c.params_at.ensures (param_is _ _ _ s p)
