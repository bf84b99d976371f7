-- `variable_count` meets its contract: the cell is the count of the row of types.
-- Assumes nothing.
use Rattle.std.proofs.Common.{arith}
use Rattle.layout.proofs.Rows.{row_count}
use Rattle.graph.proofs.Cells.{types_row}
use Rattle.graph.proofs.GraphCells.variable_count.Goals as goal

pub returns-clause-upper_bound : goal.returns-clause-upper_bound
returns-clause-upper_bound c = omega (arith, row_count _ _ _ _ (types_row c.self.invariant.1), c.self.invariant.1.bounds.vars)

pub returns-clause-value : goal.returns-clause-value
returns-clause-value c = rw c.self.view_is (λ g s. row_count _ _ _ _ (types_row s))
