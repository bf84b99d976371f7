-- `ever_declared` meets its contract: the cell is the branch's mark in the table of declared marks.
-- Assumes nothing.
use Rattle.graph.proofs.Cells.{mark_is, declared_cell}
use Rattle.graph.proofs.GraphCells.ever_declared.Goals as goal

pub returns : goal.returns
returns c = rw c.self.view_is (λ g s. mark_is _ _ (declared_cell s _ c.requires))
