-- `is_predecessor` meets its contract: the row that is searched holds the block's predecessors.
-- Assumes nothing.
use Rattle.std.proofs.Common.{◌∙◌}
use Rattle.layout.proofs.Searches.{row_has}
use Rattle.graph.proofs.Cells.{preds_row, preds_readable}
use Rattle.graph.proofs.GraphCells.is_predecessor.Goals as goal

pub has-requires : goal.has-requires
has-requires c = preds_readable c.self.invariant.1 _ c.requires c.preds_at.ensures

pub returns : goal.returns
returns c = rw (← c.self.view_is) (λ g s. c.has.ensures ∙ row_has _ _ _ _ (preds_row s _ c.requires c.preds_at.ensures) _)
