-- `append_argument` meets its contract: the value goes to the end of the row of that branch and destination.
-- Assumes nothing.
use Rattle.form.proofs.Params.{argument_room, argument_appended}
use Rattle.form.proofs.append_argument.Goals as goal

pub push-requires : goal.push-requires
push-requires c = rw c.args_at.ensures (argument_room _ _ _ c.requires.0 c.requires.1)

pub returns : goal.returns
returns c = λ s p. argument_appended _ _ _ s p _ _ (rw c.args_at.ensures at c.push.ensures)
