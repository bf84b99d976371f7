-- One block's branch more is written in each turn.
-- Assumes nothing.
use Rattle.std.proofs.Common.{◌+◌, ◌*◌, ◌≤◌}
use Rattle.entity.specs.Limits.{limits}
use Rattle.definition.specs.Base.{up_from}
use Rattle.lines.specs.Text.{each, edge_lines}
use Rattle.draw.specs.Seen.{seen}
use Rattle.lines.specs.Wrote.{Writes, line_most}
use Rattle.draw.proofs.text.put_branches.Given as goal

abbrev pub invariant-loop-p : goal.invariant-loop-p
invariant-loop-p l =
    Writes l.initial.pen (each (edge_lines (seen l.tables.graph.now l.tables.form.now)) (up_from 0 l.p)) l.pen
    × (l.pen.at ≤ l.initial.pen.at + l.p * (limits.dests * line_most))
