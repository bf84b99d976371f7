-- One block more is written in each turn.
-- Assumes nothing.
use Rattle.std.proofs.Common.{◌+◌, ◌*◌, ◌≤◌}
use Rattle.definition.specs.Base.{up_from}
use Rattle.lines.specs.Text.{each, block_line}
use Rattle.layout.specs.Rows.{entries}
use Rattle.drawable.specs.Fits.{params_at}
use Rattle.lines.specs.Wrote.{Writes, line_most}
use Rattle.draw.proofs.text.put_blocks.Given as goal

abbrev pub invariant-loop-b : goal.invariant-loop-b
invariant-loop-b l =
    Writes l.initial.pen (each (λ k. block_line k (entries l.tables.form.now (params_at k))) (up_from 0 l.b)) l.pen
    × (l.pen.at ≤ l.initial.pen.at + l.b * line_most)
