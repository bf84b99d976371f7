-- Where the lent cells have what is drawn, whatever they hold, and whether it can be drawn.
-- Assumes nothing.
use Rattle.std.specs.Prelude.{ℕ, ◌+◌, ◌*◌, Bool, not, ◌&&◌, ◌||◌, List, get_or}
use Rattle.entity.specs.Limits.{limits, value_room, param_room}
use Rattle.definition.specs.Base.{◌=?◌, ◌<?◌, ◌≤?◌, every, up_from}
use Rattle.layout.specs.Cells.{base}
use Rattle.layout.specs.Layout.{graph_sizes, form_sizes}
use Rattle.layout.specs.Rows.{entries}
pub use Rattle.layout.specs.Starts.{params_at, dests_at, args_at}

-- which tables are drawn: of the graph's the branch marks and the destinations, of the form's the parameters and the arguments
abbrev pub mark_table : ℕ
mark_table = 2

abbrev pub dest_table : ℕ
dest_table = 6

abbrev pub param_table : ℕ
param_table = 7

abbrev pub arg_table : ℕ
arg_table = 11

-- the row at a has no more entries than the room, and each is below n
unfoldable pub row_fits : ℕ → ℕ → List ℕ → ℕ → Bool
row_fits room n cells a = get_or cells a 0 ≤? room && every (λ x. x <? n) (entries cells a)

-- how many blocks, and how many values there are
abbrev pub blocks : List ℕ → ℕ
blocks graph = get_or graph (base graph_sizes 0) 0

abbrev pub values : List ℕ → ℕ
values form = get_or form (base form_sizes 0) 0

-- has block b a branch?
abbrev pub branches : List ℕ → ℕ → Bool
branches graph b = not (get_or graph (base graph_sizes mark_table + b) 0 =? 0)

-- the arguments of b's branch at destination i are few enough, and values
abbrev pub args_fit : List ℕ → ℕ → ℕ → Bool
args_fit form b i = row_fits (param_room limits) (values form) form (args_at b i)

module _ (graph form : List ℕ) where
  -- the destinations of b's branch are few enough, and blocks; and so are the arguments at each
  unfoldable pub branch_fits : ℕ → Bool
  branch_fits b = row_fits limits.dests (blocks graph) graph (dests_at b) && every (args_fit form b) (up_from 0 (get_or graph (dests_at b) 0))

  -- b's parameters are few enough, and values; and if it has a branch, that fits
  unfoldable pub block_fits : ℕ → Bool
  block_fits b = row_fits (param_room limits) (values form) form (params_at b) && (not (branches graph b) || branch_fits b)

  -- Can the picture be drawn? Blocks that are not declared are not looked at.
  unfoldable pub drawable : Bool
  drawable = blocks graph ≤? limits.blocks && values form ≤? value_room limits && every block_fits (up_from 0 (blocks graph))
