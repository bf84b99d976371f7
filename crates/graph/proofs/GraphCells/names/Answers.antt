-- `names` meets its contract: the row that is searched holds the branch's destinations.
-- Assumes nothing.
use Rattle.std.proofs.Common.{◌∙◌}
use Rattle.layout.proofs.Searches.{row_has}
use Rattle.graph.proofs.Cells.{dests_row, dests_readable}
use Rattle.graph.proofs.GraphCells.names.Goals as goal

pub has-requires : goal.has-requires
has-requires c = dests_readable c.self.invariant.1 _ c.requires c.dests_at.ensures

pub returns : goal.returns
returns c = rw (← c.self.view_is) (λ g s. c.has.ensures ∙ row_has _ _ _ _ (dests_row s _ c.requires c.dests_at.ensures) _)
