-- `append_argument` meets its contract: after each turn one destination more is fed.
-- Assumes nothing.
use Rattle.std.proofs.Common.{◌-◌}
use Rattle.settle.proofs.Feeds.{Feeding}
use Rattle.settle.proofs.append_argument.Given as goal

abbrev pub invariant-loop-i : goal.invariant-loop-i
invariant-loop-i l = Feeding l.graph l.initial.form l.branch.0 l.dest.0 l.val.0 l.form l.i

abbrev pub decreases-loop-i : goal.decreases-loop-i
decreases-loop-i l = l.n - l.i
