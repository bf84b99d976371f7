-- `push_pending` meets its contract: the variable goes to the end of the block's row.
-- Assumes nothing.
use Rattle.form.proofs.Variables.{pending_room, pending_pushed}
use Rattle.form.proofs.push_pending.Goals as goal

pub push-requires : goal.push-requires
push-requires c = rw c.pending_at.ensures (pending_room _ _ c.requires.0 c.requires.1)

pub returns : goal.returns
returns c = λ s p x. pending_pushed _ _ s p _ x _ (rw c.pending_at.ensures at c.push.ensures)
