-- `remove` meets its contract: what is left of the row, sifted from here, gives what the whole row gives.
-- Assumes nothing.
use Rattle.std.proofs.Common.{arith, ◌∙◌}
use Rattle.layout.proofs.Loops.{sift_skip, sift_keep, sift_end}
use Rattle.rows.proofs.remove.Goals as goal

pub loop-i-preserved-then-y-x : goal.loop-i-preserved-then-y-x
loop-i-preserved-then-y-x c = (omega arith, sift_skip _ _ _ _ _ _ c.loop-i-test.true c.if-y-x.true ∙ c.loop-i.invariant.1)

pub loop-i-preserved : goal.loop-i-preserved
loop-i-preserved c = (omega arith, sift_keep _ _ _ _ _ _ c.loop-i-test.true c.if-y-x.false ∙ c.loop-i.invariant.1)

pub returns : goal.returns
returns c = sift_end _ _ _ _ _ _ c.loop-i-test.false ∙ c.loop-i.invariant.1
