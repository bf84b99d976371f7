-- `put` meets its contract: one byte more is written in each turn.
-- Assumes nothing.
use Rattle.std.proofs.Common.{arith}
use Rattle.lines.proofs.Pieces.{byte_more}
use Rattle.lines.proofs.pen.Pen.put.Goals as goal

pub loop-i-preserved : goal.loop-i-preserved
loop-i-preserved c = byte_more _ c.loop-i.invariant c.loop-i-test.true c.poke.ensures (omega arith)
