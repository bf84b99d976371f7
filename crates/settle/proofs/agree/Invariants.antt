-- `agree` meets its contract: what the results so far say, with those still to come, says what all of them say.
-- Assumes nothing.
use Rattle.settle.proofs.Judges.{Judging}
use Rattle.settle.proofs.agree.Given as goal

abbrev pub invariant-loop-i : goal.invariant-loop-i
invariant-loop-i l = Judging l.form l.work l.c l.n l.fn.sentinel.0 l.verdict l.i
