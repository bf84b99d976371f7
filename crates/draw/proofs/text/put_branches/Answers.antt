-- `put_branches` meets its contract: one block's branch more is written in each turn.
-- Assumes nothing.
use Rattle.std.proofs.Common.{arith}
use Rattle.lines.specs.Text.{each}
use Rattle.lines.proofs.Pieces.{no_piece, one_more_up}
use Rattle.draw.proofs.text.put_branches.Goals as goal

pub loop-p-init : goal.loop-p-init
unfolding each
loop-p-init c = (no_piece, omega arith)

pub loop-p-preserved : goal.loop-p-preserved
loop-p-preserved c = (one_more_up _ _ c.loop-p.invariant.0 c.put_branch.ensures.wrote, omega arith)
