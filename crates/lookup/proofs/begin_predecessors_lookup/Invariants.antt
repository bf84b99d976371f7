-- `begin_predecessors_lookup` meets its contract: the call that settles goes below, then the predecessors from place i on are scheduled.
-- Assumes nothing.
use Rattle.std.proofs.Common.{◌≡◌}
use Rattle.lookup.proofs.Begins.{Scheduling}
use Rattle.lookup.proofs.begin_predecessors_lookup.Given as goal

abbrev pub invariant-loop-i : goal.invariant-loop-i
invariant-loop-i l =
    (l.d.values ≡ l.initial.d.values) × (l.d.call ≡ l.initial.d.call)
    × Scheduling l.graph l.dest.0 l.initial.work l.initial.d l.work l.d l.i
