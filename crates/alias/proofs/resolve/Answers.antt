-- Each way out of the walk: a number past the list, an end, a target past the list, as many turns as the list has cells.
-- Assumes nothing.
use Rattle.std.proofs.Common.{arith}
use Rattle.definition.specs.Resolve.{past}
use Rattle.alias.proofs.Walks.{came_to_end, went_round, left_list, goes_on}
use Rattle.alias.proofs.resolve.Goals as goal

pub returns-then-targets-at : goal.returns-then-targets-at
returns-then-targets-at c = past (omega arith)

pub returns-then-next-at : goal.returns-then-next-at
returns-then-next-at c = came_to_end c.loop-steps.invariant c.if-next-at.true

pub loop-steps-preserved : goal.loop-steps-preserved
loop-steps-preserved c = goes_on c.loop-steps.invariant c.if-next-at.false c.if-targets-next.false

pub returns-after-loop-steps : goal.returns-after-loop-steps
returns-after-loop-steps c = went_round c.loop-steps.invariant c.loop-steps-test.false

pub returns-then-targets-next : goal.returns-then-targets-next
returns-then-targets-next c = left_list c.loop-steps.invariant c.if-next-at.false c.if-targets-next.true
