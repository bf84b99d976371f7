-- `put_values` meets its contract: the first value, and the others each after a comma.
-- Assumes nothing.
use Rattle.std.proofs.Common.{ap}
use Rattle.lines.specs.Text.{named, values}
use Rattle.lines.proofs.Pieces.{piece_as, ◌then◌, no_values}
use Rattle.lines.proofs.pen.Pen.put_values.Goals as goal

pub returns-in-Some-clause-wrote : goal.returns-in-Some-clause-wrote
unfolding named values
returns-in-Some-clause-wrote c = piece_as (ap values c.in-Some.ensures.cases.0) (c.put_named.ensures.wrote then c.put_more.ensures.wrote)

pub returns-in_default-clause-wrote : goal.returns-in_default-clause-wrote
returns-in_default-clause-wrote c = no_values _ c.in_default.ensures.cases
