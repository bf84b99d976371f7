-- `predecessor` meets its contract: the cell is an entry of the block's row, and every predecessor is a block that is there.
-- Assumes nothing.
use Rattle.std.proofs.Common.{arith}
use Rattle.layout.proofs.Rows.{row_entry}
use Rattle.graph.proofs.Cells.{preds_row, pred_low}
use Rattle.graph.proofs.GraphCells.predecessor.Goals as goal

pub returns-clause-result_lt_blocks : goal.returns-clause-result_lt_blocks
returns-clause-result_lt_blocks c =
    let p = c.requires in
    let a = c.args in
    let row = preds_row c.self.invariant.1 _ p.block_lt_blocks c.preds_at.ensures in
    omega (arith, row_entry _ _ _ _ row a.place (omega arith), pred_low c.self.invariant.1 a.block.0 a.place)

pub returns-clause-result_value : goal.returns-clause-result_value
returns-clause-result_value c = rw c.self.view_is (λ g s. row_entry _ _ _ _ (preds_row s _ c.requires.block_lt_blocks c.preds_at.ensures) _ (omega arith))
