-- `put_named` meets its contract: the number stands after the text.
-- Assumes nothing.
use Rattle.lines.proofs.Pieces.{◌then◌}
use Rattle.lines.proofs.pen.Pen.put_named.Goals as goal

pub returns-clause-wrote : goal.returns-clause-wrote
returns-clause-wrote c = c.put.ensures then c.put_number.ensures.wrote
