-- One destination more is written in each turn.
-- Assumes nothing.
use Rattle.std.proofs.Common.{get_or, ◌+◌, ◌*◌, ◌≤◌}
use Rattle.definition.specs.Base.{up_from}
use Rattle.lines.specs.Text.{each, edge_line}
use Rattle.layout.specs.Rows.{entries}
use Rattle.drawable.specs.Fits.{args_at}
use Rattle.lines.specs.Wrote.{Writes, line_most}
use Rattle.draw.proofs.text.put_dests.Given as goal

abbrev pub invariant-loop-i : goal.invariant-loop-i
invariant-loop-i l =
    Writes l.initial.pen (each (λ k. edge_line l.branch.0 (get_or l.dests k 0) (entries l.tables.form.now (args_at l.branch.0 k))) (up_from 0 l.i)) l.pen
    × (l.pen.at ≤ l.initial.pen.at + l.i * line_most)
