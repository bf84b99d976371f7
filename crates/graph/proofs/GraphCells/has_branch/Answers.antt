-- `has_branch` meets its contract: the cell is the block's mark in the table of branch marks.
-- Assumes nothing.
use Rattle.graph.proofs.Cells.{mark_is, branch_cell}
use Rattle.graph.proofs.GraphCells.has_branch.Goals as goal

pub returns : goal.returns
returns c = rw c.self.view_is (λ g s. mark_is _ _ (branch_cell s _ c.requires))
