-- `dest` meets its contract: the cell is an entry of the branch's row, and every destination is a block that is there.
-- Assumes nothing.
use Rattle.std.proofs.Common.{arith}
use Rattle.layout.proofs.Rows.{row_entry}
use Rattle.graph.proofs.Cells.{dests_row, dest_low}
use Rattle.graph.proofs.GraphCells.dest.Goals as goal

pub returns-clause-result_lt_blocks : goal.returns-clause-result_lt_blocks
returns-clause-result_lt_blocks c =
    let p = c.requires in
    let a = c.args in
    let row = dests_row c.self.invariant.1 _ p.branch_lt_blocks c.dests_at.ensures in
    omega (arith, row_entry _ _ _ _ row a.place (omega arith), dest_low c.self.invariant.1 a.branch.0 a.place)

pub returns-clause-result_value : goal.returns-clause-result_value
returns-clause-result_value c = rw c.self.view_is (λ g s. row_entry _ _ _ _ (dests_row s _ c.requires.branch_lt_blocks c.dests_at.ensures) _ (omega arith))
