-- `pending_count` meets its contract: the cell read is the count of the block's row.
-- Assumes nothing.
use Rattle.form.proofs.Variables.{pending_count, pending_few}
use Rattle.form.proofs.pending_count.Goals as goal

pub returns : goal.returns
returns c = rw c.pending_at.ensures (pending_few _ _ c.requires.0 c.requires.1, λ s p. pending_count _ _ s p)
