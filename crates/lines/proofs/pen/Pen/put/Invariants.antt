-- As much of the text is written as turns are over.
-- Assumes nothing.
use Rattle.std.proofs.Common.{take, ◌+◌}
use Rattle.lines.specs.Wrote.{Wrote}
use Rattle.lines.proofs.pen.Pen.put.Given as goal

abbrev pub invariant-loop-i : goal.invariant-loop-i
invariant-loop-i l = Wrote l.initial.out l.at (take l.i l.text) l.out (l.at + l.i)
