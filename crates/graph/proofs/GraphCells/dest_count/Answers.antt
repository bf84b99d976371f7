-- `dest_count` meets its contract: the cell is the count of the branch's row, which has no more destinations than the limit.
-- Assumes nothing.
use Rattle.std.proofs.Common.{arith}
use Rattle.layout.proofs.Rows.{row_count}
use Rattle.graph.proofs.Cells.{dests_row}
use Rattle.graph.proofs.GraphCells.dest_count.Goals as goal

pub returns-clause-upper_bound : goal.returns-clause-upper_bound
returns-clause-upper_bound c =
    let p = c.requires in
    omega (arith, row_count _ _ _ _ (dests_row c.self.invariant.1 _ p c.dests_at.ensures), c.self.invariant.1.bounds.dests c.args.branch.0)

pub returns-clause-value : goal.returns-clause-value
returns-clause-value c = rw c.self.view_is (λ g s. row_count _ _ _ _ (dests_row s _ c.requires c.dests_at.ensures))
