-- `value_type` meets its contract: the cell read is that of the value's description, and the type is a part of it.
-- Assumes nothing.
use Rattle.form.proofs.Values.{type_is}
use Rattle.form.proofs.value_type.Goals as goal

pub returns : goal.returns
returns c = (c.from_cell-d.ensures.type, λ s p lt. type_is _ s _ p _ c.from_cell-d.ensures lt)
