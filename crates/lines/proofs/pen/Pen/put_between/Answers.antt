-- `put_between` meets its contract: the three stand one after the other.
-- Assumes nothing.
use Rattle.lines.proofs.Pieces.{◌then◌}
use Rattle.lines.proofs.pen.Pen.put_between.Goals as goal

pub returns-clause-wrote : goal.returns-clause-wrote
returns-clause-wrote c = c.put.ensures then c.put_values.ensures.wrote then c.put-2.ensures
