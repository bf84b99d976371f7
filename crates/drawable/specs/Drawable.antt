-- What the functions ask and promise: rows as they lie in their tables, and tables that can be drawn.
-- Assumes nothing.
use Rattle.std.specs.Prelude.{ℕ, ◌≤◌, ◌<◌, ◌≡◌, true, List, length, get_or}
use Rattle.entity.specs.Limits.{limits, value_room, param_room, graph_need, form_need}
use Rattle.meaning.specs.Path.{In}
use Rattle.layout.specs.Rows.{entries}
use Rattle.drawable.specs.Fits.{params_at, dests_at, args_at, blocks, values, branches}

-- xs are the entries of the row at a, as many as its count says
pub record Listed (cells : List ℕ) (a : ℕ) (xs : List ℕ) : Type 0 where
  pub are : xs ≡ entries cells a
  pub count : length xs ≡ get_or cells a 0

-- the tables are as long as they need to be
pub record Long (graph form : List ℕ) : Type 0 where
  pub graph_long : graph_need limits ≤ length graph
  pub form_long : form_need limits ≤ length form

-- What `row_fits` and `branch_fits` test.
pub record RowFits (room n : ℕ) (cells : List ℕ) (a : ℕ) : Type 0 where
  pub few : get_or cells a 0 ≤ room
  pub below : (x : ℕ) → In x (entries cells a) → x < n

pub record BranchFits (graph form : List ℕ) (b : ℕ) : Type 0 where
  pub dests : RowFits limits.dests (blocks graph) graph (dests_at b)
  pub args : (i : ℕ) → i < get_or graph (dests_at b) 0 → RowFits (param_room limits) (values form) form (args_at b i)

-- What `drawable` tests: counts are within their limits, and numbers name something that is there.
pub record Drawable (graph form : List ℕ) : Type 0 where
  pub few_blocks : blocks graph ≤ limits.blocks
  pub few_values : values form ≤ value_room limits
  pub params : (b : ℕ) → b < blocks graph → RowFits (param_room limits) (values form) form (params_at b)
  pub branch : (b : ℕ) → b < blocks graph → branches graph b ≡ true → BranchFits graph form b
