-- `own_count` meets its contract: the cell read is the block's count.
-- Assumes nothing.
use Rattle.form.proofs.Params.{owns_is}
use Rattle.form.proofs.own_count.Goals as goal

pub returns : goal.returns
returns c = λ s p. owns_is _ _ s p
