-- `variable_type` meets its contract: the cell is an entry of the row of types.
-- Assumes nothing.
use Rattle.std.proofs.Common.{arith}
use Rattle.layout.proofs.Rows.{row_entry}
use Rattle.graph.proofs.Cells.{types_row}
use Rattle.graph.proofs.GraphCells.variable_type.Goals as goal

pub returns : goal.returns
returns c = rw c.self.view_is (λ g s. row_entry _ _ _ _ (types_row s) _ (omega arith))
