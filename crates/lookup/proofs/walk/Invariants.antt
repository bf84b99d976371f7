-- `walk` meets its contract: what the walk from here on says is what the whole walk says, and each turn marks one more block.
-- Assumes nothing.
use Rattle.std.proofs.Common.{◌<◌, ◌≡◌, length}
use Rattle.entity.specs.Limits.{limits}
use Rattle.lookup.proofs.Walks.{unmarked, Walks}
use Rattle.lookup.proofs.walk.Given as goal

abbrev pub invariant-loop-pred : goal.invariant-loop-pred
invariant-loop-pred l = (l.b.0 < limits.blocks) × (length l.visited ≡ limits.blocks) × Walks l.graph l.form l.var.0 l.initial.b.0 l.visited l.b.0

abbrev pub decreases-loop-pred : goal.decreases-loop-pred
decreases-loop-pred l = unmarked l.visited limits.blocks
