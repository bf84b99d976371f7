-- `row_fits` meets its contract: it makes the definition's tests in their order.
-- Assumes nothing.
use Rattle.std.proofs.Common.{sym, ap, ◌∙◌}
use Rattle.definition.specs.Base.{every}
use Rattle.drawable.proofs.Checks.{row_past, row_tested}
use Rattle.drawable.proofs.row_fits.Goals as goal

pub returns-then-room-row : goal.returns-then-room-row
returns-then-room-row c = sym (row_past _ _ _ _ c.if-room-row.true)

pub returns : goal.returns
returns c = c.below.ensures ∙ ap (every _) c.entries.ensures ∙ sym (row_tested _ _ _ _ c.if-room-row.false)
