-- `copy_back` meets its contract: the cells show the form with the blocks behind marked, and the way to `from` gets shorter. A block on the way has a
-- single predecessor, so the loop is never left in the middle.
-- Assumes nothing.
use Rattle.lookup.proofs.Copies.{copy_start, copy_low, copy_has, copy_some, copy_falls, copy_next, copy_end}
use Rattle.lookup.proofs.copy_back.Goals as goal

pub loop-var-init : goal.loop-var-init
loop-var-init c = copy_start

pub record_def-requires-clause-ex : goal.record_def-requires-clause-ex
record_def-requires-clause-ex c = let p = c.requires in (_, copy_has c.loop-var-test.ensures c.loop-var.invariant p.copy_with.3)

pub single_predecessor-requires : goal.single_predecessor-requires
single_predecessor-requires c = copy_low c.loop-var-test.ensures c.loop-var.invariant c.requires.copy_with.3

pub returns-in_default : goal.returns-in_default
returns-in_default c = λ g s bs h. absurd (copy_some c.loop-var-test.ensures c.loop-var.invariant h c.in_default.is c.single_predecessor.ensures)

pub loop-var-smaller : goal.loop-var-smaller
loop-var-smaller c = copy_falls c.loop-var-test.ensures c.loop-var.invariant c.requires.copy_with.3 c.in-Some.is c.single_predecessor.ensures

pub loop-var-preserved : goal.loop-var-preserved
loop-var-preserved c = copy_next c.loop-var-test.ensures c.loop-var.invariant c.in-Some.is c.single_predecessor.ensures c.record_def.ensures

pub returns : goal.returns
returns c = λ g s bs h. copy_end c.loop-var-test.ensures c.loop-var.invariant g s bs h
