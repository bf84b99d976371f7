-- `change_to_alias` meets its contract: the cell stored is that of the value's target.
-- Assumes nothing.
use Rattle.form.proofs.Values.{alias_stored}
use Rattle.form.proofs.change_to_alias.Goals as goal

pub returns : goal.returns
returns c = λ s p. alias_stored _ s _ p _
