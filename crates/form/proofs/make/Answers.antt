-- `make` meets its contract: the three stores make the next value, and each cell is there.
-- Assumes nothing.
use Rattle.form.proofs.Values.{value_made, sort_numbered}
use Rattle.form.proofs.make.Goals as goal

pub returns : goal.returns
returns c = (c.allot.ensures, λ s p. value_made _ _ s p _ _ _ _ _ (sort_numbered _) c.cell.ensures)
