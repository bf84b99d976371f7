-- One value more is written in each turn.
-- Assumes nothing.
use Rattle.std.proofs.Common.{take, ◌+◌, ◌*◌, ◌≤◌, ◌^◌}
use Rattle.lines.specs.Text.{named, each}
use Rattle.lines.specs.Wrote.{Writes}
use Rattle.lines.proofs.pen.Pen.put_more.Given as goal

abbrev pub invariant-loop-x : goal.invariant-loop-x
invariant-loop-x l =
    Writes l.initial.self (each (named ",v") (take l.x-index l.xs)) l.self × (l.self.at ≤ l.initial.self.at + l.x-index * 2 ^ 33)
