-- `predecessor_count` meets its contract: the cell is the count of the block's row, which has no more predecessors than there can be blocks.
-- Assumes nothing.
use Rattle.std.proofs.Common.{arith}
use Rattle.layout.proofs.Rows.{row_count}
use Rattle.graph.proofs.Cells.{preds_row, preds_few}
use Rattle.graph.proofs.GraphCells.predecessor_count.Goals as goal

pub returns-clause-upper_bound : goal.returns-clause-upper_bound
returns-clause-upper_bound c =
    let p = c.requires in
    omega (arith, row_count _ _ _ _ (preds_row c.self.invariant.1 _ p c.preds_at.ensures), preds_few c.self.invariant.1 c.args.block.0)

pub returns-clause-value : goal.returns-clause-value
returns-clause-value c = rw c.self.view_is (λ g s. row_count _ _ _ _ (preds_row s _ c.requires c.preds_at.ensures))
