-- `zero_count` meets its contract: the cell read is the count of the log's row.
-- Assumes nothing.
use Rattle.form.proofs.Logs.{zero_count}
use Rattle.form.proofs.zero_count.Goals as goal

pub returns : goal.returns
returns c = λ s p. zero_count _ s p
