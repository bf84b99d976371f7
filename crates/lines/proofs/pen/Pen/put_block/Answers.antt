-- `put_block` meets its contract: the pieces of the line stand one after the other.
-- Assumes nothing.
use Rattle.lines.specs.Text.{named}
use Rattle.lines.proofs.Pieces.{as_block}
use Rattle.lines.proofs.pen.Pen.put_block.Goals as goal

pub returns-clause-wrote : goal.returns-clause-wrote
unfolding named
returns-clause-wrote c = as_block _ _ c.put_names.ensures.wrote c.put_between.ensures.wrote
