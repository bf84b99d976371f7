-- `block_count` meets its contract: the cell is the first table.
-- Assumes nothing.
use Rattle.std.proofs.Common.{arith}
use Rattle.graph.proofs.Cells.{blocks_cell}
use Rattle.graph.proofs.GraphCells.block_count.Goals as goal

pub returns-clause-upper_bound : goal.returns-clause-upper_bound
returns-clause-upper_bound c = omega (arith, blocks_cell c.self.invariant.1, c.self.invariant.1.bounds.few)

pub returns-clause-value : goal.returns-clause-value
returns-clause-value c = rw c.self.view_is (λ g s. blocks_cell s)
