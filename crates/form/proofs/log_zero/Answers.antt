-- `log_zero` meets its contract: the call and the block go to the ends of the log's two rows.
-- Assumes nothing.
use Rattle.form.proofs.Logs.{log_room, log_room_2, zero_logged}
use Rattle.form.proofs.log_zero.Goals as goal

pub push-requires : goal.push-requires
push-requires c = log_room _ c.requires.0 c.requires.1

pub push-requires-2 : goal.push-requires-2
push-requires-2 c = log_room_2 _ c.requires.0 c.requires.1 _ _ c.push.ensures

pub returns : goal.returns
returns c = λ s p. zero_logged _ s p _ _ c.push.ensures _ _ c.push-2.ensures
