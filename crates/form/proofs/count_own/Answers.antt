-- `count_own` meets its contract: the block's count is stored plus one, which its limit keeps within a cell.
-- Assumes nothing.
use Rattle.std.proofs.Common.{arith}
use Rattle.form.proofs.Params.{owns_is, owns_counted}
use Rattle.form.proofs.count_own.Goals as goal

pub overflow_add-form-2 : goal.overflow_add-form-2
overflow_add-form-2 c = omega (arith, owns_is _ _ c.requires.0 c.requires.1.owns, c.requires.1.room)

pub returns : goal.returns
returns c = λ s p. owns_counted _ _ s p
