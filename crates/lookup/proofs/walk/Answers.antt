-- `walk` meets its contract: what the walk from here on says is what the whole walk says, and each turn marks one more block.
-- Assumes nothing.
use Rattle.std.proofs.Common.{arith, refl, length-set}
use Rattle.lookup.proofs.Walks.{unmarked_falls, walk_start, stop_alone, stop_again, step_has, stop_found, walk_turn}
use Rattle.lookup.proofs.walk.Goals as goal

pub loop-pred-init : goal.loop-pred-init
loop-pred-init c = let p = c.requires in (omega (arith, p.2.known, p.2.seen.bounds.few), refl, walk_start)

pub returns-in_default : goal.returns-in_default
returns-in_default c = λ g s p. stop_alone c.loop-pred.invariant.0 c.loop-pred.invariant.2 c.in_default.is c.single_predecessor.ensures _ refl refl g s p

pub returns-then-visited-i : goal.returns-then-visited-i
returns-then-visited-i c = λ g s p. stop_again c.loop-pred.invariant.0 c.loop-pred.invariant.2 c.if-visited-i.true _ refl refl g s p

pub definition-requires : goal.definition-requires
definition-requires c = let p = c.requires in (p.1, step_has c.loop-pred.invariant.0 c.loop-pred.invariant.2 c.in-Some.is c.single_predecessor.ensures p.2)

pub returns-in-Some-definition : goal.returns-in-Some-definition
returns-in-Some-definition c =
    λ g s p.
    stop_found c.loop-pred.invariant.0 c.loop-pred.invariant.2 c.in-Some.is c.single_predecessor.ensures c.if-visited-i.false c.in-Some-definition.is
    c.definition.ensures _ refl refl g s p

pub loop-pred-smaller : goal.loop-pred-smaller
loop-pred-smaller c = unmarked_falls c.loop-pred.visited _ _ c.loop-pred.invariant.0 (omega arith) c.if-visited-i.false

pub loop-pred-preserved : goal.loop-pred-preserved
loop-pred-preserved c = (
  (step_has c.loop-pred.invariant.0 c.loop-pred.invariant.2 c.in-Some.is c.single_predecessor.ensures c.requires.2).known,
  simp length-set c.loop-pred.invariant.1,
  walk_turn c.loop-pred.invariant.0 c.loop-pred.invariant.2 c.in-Some.is c.single_predecessor.ensures c.if-visited-i.false c.in_default-definition.is c.definition.ensures (omega arith),
)
