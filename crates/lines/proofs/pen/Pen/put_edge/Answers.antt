-- `put_edge` meets its contract: the pieces of the line stand one after the other.
-- Assumes nothing.
use Rattle.lines.specs.Text.{named}
use Rattle.lines.proofs.Pieces.{as_edge}
use Rattle.lines.proofs.pen.Pen.put_edge.Goals as goal

pub returns-clause-wrote : goal.returns-clause-wrote
unfolding named
returns-clause-wrote c = as_edge _ _ _ c.put_names.ensures.wrote c.put_between.ensures.wrote
