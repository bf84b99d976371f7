-- `put_more` meets its contract: one value more is written in each turn.
-- Assumes nothing.
use Rattle.std.proofs.Common.{arith}
use Rattle.lines.specs.Text.{named, each}
use Rattle.lines.proofs.Pieces.{no_piece, one_more_of}
use Rattle.lines.proofs.pen.Pen.put_more.Goals as goal

pub loop-x-init : goal.loop-x-init
unfolding each
loop-x-init c = (no_piece, omega arith)

pub loop-x-preserved : goal.loop-x-preserved
unfolding named
loop-x-preserved c = (one_more_of (named ",v") _ _ c.loop-x-test.true c.loop-x.invariant.0 c.put_named.ensures.wrote, omega arith)
