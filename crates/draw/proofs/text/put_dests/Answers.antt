-- `put_dests` meets its contract: one destination more is written in each turn.
-- Assumes nothing.
use Rattle.std.proofs.Common.{arith}
use Rattle.lines.specs.Text.{each}
use Rattle.lines.proofs.Pieces.{no_piece, one_more_up}
use Rattle.draw.proofs.text.put_dests.Goals as goal

pub loop-i-init : goal.loop-i-init
unfolding each
loop-i-init c = (no_piece, omega arith)

pub loop-i-preserved : goal.loop-i-preserved
loop-i-preserved c = (one_more_up _ _ c.loop-i.invariant.0 (rw c.args-args.ensures.are at c.put_edge.ensures.wrote), omega arith)
