-- `Described::from_cell` meets its contract: `%` and `/` take the parts of a cell.
-- Assumes nothing.
use Rattle.std.proofs.Common.{refl}
use Rattle.entity.proofs.Packing.{parts}
use Rattle.entity.proofs.Described.from_cell.Goals as goal

pub returns : goal.returns
returns c = parts _ _ refl c.numbered.ensures refl
