-- `is_sealed` meets its contract: the cell is the block's mark in the table of sealed marks.
-- Assumes nothing.
use Rattle.graph.proofs.Cells.{mark_is, sealed_cell}
use Rattle.graph.proofs.GraphCells.is_sealed.Goals as goal

pub returns : goal.returns
returns c = rw c.self.view_is (λ g s. mark_is _ _ (sealed_cell s _ c.requires))
