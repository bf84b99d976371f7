-- Where the row of a branch, a block or a destination starts, and the cell of a variable's definition in a block.
-- Assumes nothing.
use Rattle.std.specs.Prelude.{ℕ, ◌+◌, ◌*◌}
use Rattle.entity.specs.Limits.{limits}
use Rattle.layout.specs.Cells.{base}
use Rattle.layout.specs.Layout.{dest_row, pred_row, param_row, wait_row, graph_sizes, form_sizes}

abbrev pub dests_at : ℕ → ℕ
dests_at p = base graph_sizes 6 + p * dest_row

abbrev pub preds_at : ℕ → ℕ
preds_at b = base graph_sizes 7 + b * pred_row

abbrev pub params_at : ℕ → ℕ
params_at b = base form_sizes 7 + b * param_row

abbrev pub pending_at : ℕ → ℕ
pending_at b = base form_sizes 9 + b * wait_row

abbrev pub def_at : ℕ → ℕ → ℕ
def_at v b = base form_sizes 10 + (v * limits.blocks + b)

abbrev pub args_at : ℕ → ℕ → ℕ
args_at p i = base form_sizes 11 + (p * limits.dests + i) * param_row
