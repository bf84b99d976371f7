-- What each method makes of the counts; and the scheduled call that the machine's task is.
-- Assumes nothing.
use Rattle.std.specs.Prelude.{ℕ, ◌+◌, ◌-◌, ◌<◌}
use Rattle.entity.specs.Limits.{limits, value_room}
use Rattle.meaning.specs.Machine.{Task, look, finish}
use Rattle.layout.specs.declared.Counts.{Counts}
use Rattle.layout.specs.declared.Call.{Call}

abbrev pub counts : ℕ → ℕ → ℕ → ℕ → Counts
counts values calls results call = record { values = values; calls = calls; results = results; call = call }

-- one value more
abbrev pub more : Counts → Counts
more c = counts (c.values + 1) c.calls c.results c.call

-- so many values
abbrev pub with_values : ℕ → Counts → Counts
with_values n c = counts n c.calls c.results c.call

-- one scheduled call more, one less
abbrev pub one_call : Counts → Counts
one_call c = counts c.values (c.calls + 1) c.results c.call

abbrev pub call_less : Counts → Counts
call_less c = counts c.values (c.calls - 1) c.results c.call

-- one result more, n less
abbrev pub one_result : Counts → Counts
one_result c = counts c.values c.calls (c.results + 1) c.call

abbrev pub results_less : ℕ → Counts → Counts
results_less n c = counts c.values c.calls (c.results - n) c.call

abbrev pub task : Call → Task
task (Call.UseVar p) = look p.0
task (Call.FinishPredecessorsLookup x b) = finish x.0 b.0

-- the value that the call names is one, so that it fits a cell plus one
abbrev pub SmallCall : Call → Type 0
SmallCall (Call.UseVar p) = Unit {0}
SmallCall (Call.FinishPredecessorsLookup x b) = x.0 < value_room limits
