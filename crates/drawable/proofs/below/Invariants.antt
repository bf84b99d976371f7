-- `below` meets its contract: what is left of the list decides.
-- Assumes nothing.
use Rattle.std.proofs.Common.{drop, ◌≡◌}
use Rattle.definition.specs.Base.{◌<?◌, every}
use Rattle.drawable.proofs.below.Given as goal

abbrev pub invariant-loop-x : goal.invariant-loop-x
invariant-loop-x l = every (λ x. x <? l.n) (drop l.x-index l.xs) ≡ every (λ x. x <? l.n) l.xs
