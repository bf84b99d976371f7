-- `argument_count` meets its contract: the cell read is the count of the row of that branch and destination.
-- Assumes nothing.
use Rattle.form.proofs.Params.{argument_count}
use Rattle.form.proofs.argument_count.Goals as goal

pub returns : goal.returns
returns c = λ s p. rw c.args_at.ensures (argument_count _ _ _ s p)
