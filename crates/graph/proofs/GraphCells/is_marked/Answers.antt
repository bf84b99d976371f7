-- `is_marked` meets its contract: the cell is the variable's mark.
-- Assumes nothing.
use Rattle.graph.proofs.Cells.{mark_is, marks_cell}
use Rattle.graph.proofs.GraphCells.is_marked.Goals as goal

pub returns : goal.returns
returns c = rw c.self.view_is (λ g s. mark_is _ _ (marks_cell s _ c.requires))
