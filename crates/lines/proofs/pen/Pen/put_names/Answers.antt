-- `put_names` meets its contract: the two stand one after the other.
-- Assumes nothing.
use Rattle.lines.specs.Text.{named}
use Rattle.lines.proofs.Pieces.{◌then◌}
use Rattle.lines.proofs.pen.Pen.put_names.Goals as goal

pub returns-clause-wrote : goal.returns-clause-wrote
unfolding named
returns-clause-wrote c = c.put_named.ensures.wrote then c.put_named-2.ensures.wrote
