-- `count_made` meets its contract: the count of made values is stored plus one, which its limit keeps within a cell.
-- Assumes nothing.
use Rattle.std.proofs.Common.{arith}
use Rattle.form.proofs.Values.{made_is, made_counted}
use Rattle.form.proofs.count_made.Goals as goal

pub overflow_add-form : goal.overflow_add-form
overflow_add-form c = omega (arith, made_is _ c.requires.0 c.requires.1.cells, c.requires.1.room)

pub returns : goal.returns
returns c = λ s p. made_counted _ s p
