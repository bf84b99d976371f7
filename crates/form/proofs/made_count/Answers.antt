-- `made_count` meets its contract: the cell read is the count of made values.
-- Assumes nothing.
use Rattle.form.proofs.Values.{made_is}
use Rattle.form.proofs.made_count.Goals as goal

pub returns : goal.returns
returns c = λ s p. made_is _ s p
