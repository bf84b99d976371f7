-- `put_branch` meets its contract: without a branch there is no line, else there is one for each destination.
-- Assumes nothing.
use Rattle.std.proofs.Common.{ap, not, eq-eqb}
use Rattle.lines.proofs.Pieces.{no_piece, piece_as}
use Rattle.draw.proofs.Rows.{no_lines}
use Rattle.draw.proofs.text.put_branch.Goals as goal

pub returns-then-tables-b-eq0-clause-wrote : goal.returns-then-tables-b-eq0-clause-wrote
returns-then-tables-b-eq0-clause-wrote c =
    piece_as (no_lines _ _ _ (ap not (eq-eqb _ _ c.if-tables-b-eq0.true))) no_piece
