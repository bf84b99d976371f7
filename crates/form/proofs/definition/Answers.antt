-- `definition` meets its contract: the cell read is that of the variable and the block, and one less than it is what is recorded there.
-- Assumes nothing.
use Rattle.std.proofs.Common.{rules, tests}
use Rattle.form.proofs.Variables.{definition_read}
use Rattle.form.proofs.definition.Goals as goal

pub returns : goal.returns
returns c = λ s p. definition_read _ _ _ s p _ (rw c.def_at.ensures at c.checked_sub.ensures) _ (search (rules, tests))
