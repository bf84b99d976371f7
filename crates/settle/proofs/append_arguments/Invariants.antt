-- `append_arguments` meets its contract: after each turn one predecessor more has fed its result.
-- Assumes nothing.
use Rattle.settle.proofs.Feeds.{FeedingAll}
use Rattle.settle.proofs.append_arguments.Given as goal

abbrev pub invariant-loop-i : goal.invariant-loop-i
invariant-loop-i l = FeedingAll l.graph l.initial.form l.work l.c l.dest.0 l.form l.i
