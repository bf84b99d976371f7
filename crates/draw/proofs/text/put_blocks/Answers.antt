-- `put_blocks` meets its contract: one block more is written in each turn.
-- Assumes nothing.
use Rattle.std.proofs.Common.{arith}
use Rattle.lines.specs.Text.{each}
use Rattle.lines.proofs.Pieces.{no_piece, one_more_up}
use Rattle.draw.proofs.text.put_blocks.Goals as goal

pub loop-b-init : goal.loop-b-init
unfolding each
loop-b-init c = (no_piece, omega arith)

pub loop-b-preserved : goal.loop-b-preserved
loop-b-preserved c = (one_more_up _ _ c.loop-b.invariant.0 (rw c.params.ensures.are at c.put_block.ensures.wrote), omega arith)
