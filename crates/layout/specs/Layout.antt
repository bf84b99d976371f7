-- Which table holds what, in the three lent lists: graph, form and work. Sizes follow from the limits.
-- Assumes nothing.
use Rattle.std.specs.Prelude.{ℕ, suc, ◌+◌, ◌*◌, ◌/◌, ◌%◌, ◌≤◌, ◌<◌}
use Rattle.std.specs.Prelude.{◌≡◌, refl, Bool, List, [], ◌∷◌, map, reverse, length, get_or}
use Rattle.entity.specs.Limits.{limits, row_cells, zero_room, value_room, wait_room, param_room, pred_room, call_room, result_room}
use Rattle.entity.specs.Limits.{graph_need, form_need, work_need}
use Rattle.entity.specs.Described.{packed}
use Rattle.definition.specs.Form.{Graph, Form, Info, def}
use Rattle.definition.specs.Session.{bit}
use Rattle.definition.specs.Tables.{sort_number, plus_one}
use Rattle.meaning.specs.Machine.{Task, look, finish, Conf}
use Rattle.layout.specs.declared.Counts.{Counts}
use Rattle.layout.specs.Cells.{Table, sum, base, render, Holds, grid, cell, rows, upto}

abbrev pub firsts : List (ℕ × ℕ) → List ℕ
firsts = map (λ w. w.0)

abbrev pub seconds : List (ℕ × ℕ) → List ℕ
seconds = map (λ w. w.1)

-- cells of a row: types; destinations; predecessors, also blocks placed; zeros; parameters, also arguments; what is pending
abbrev pub type_row : ℕ
type_row = row_cells limits.variables

abbrev pub dest_row : ℕ
dest_row = row_cells limits.dests

abbrev pub pred_row : ℕ
pred_row = row_cells (pred_room limits)

abbrev pub zero_row : ℕ
zero_row = row_cells (zero_room limits)

abbrev pub param_row : ℕ
param_row = row_cells (param_room limits)

abbrev pub wait_row : ℕ
wait_row = row_cells (wait_room limits)

abbrev pub graph_sizes : List ℕ
graph_sizes =
    1 ∷ type_row ∷ limits.blocks ∷ limits.blocks ∷ limits.blocks ∷ limits.variables
    ∷ limits.blocks * dest_row ∷ limits.blocks * pred_row ∷ []

abbrev pub graph_tables : Graph → List Table
graph_tables g =
    (λ i. g.blocks)  -- 0
    ∷ cell g.types  -- 1
    ∷ (λ b. bit (g.branch b))  -- 2
    ∷ (λ b. bit (g.sealed b))  -- 3
    ∷ (λ b. bit (g.declared b))  -- 4
    ∷ (λ v. bit (g.marks v))  -- 5
    ∷ rows dest_row g.dests  -- 6
    ∷ rows pred_row g.preds  -- 7
    ∷ []

-- what a value is, in one cell, and whether it is recorded for stack maps
abbrev pub described : Info → Bool → ℕ
described i m = packed i.type (sort_number i.sort) (bit m) i.home

abbrev pub form_sizes : List ℕ
form_sizes =
    1 ∷ 1 ∷ value_room limits ∷ value_room limits ∷ pred_row ∷ zero_row ∷ zero_row
    ∷ limits.blocks * param_row ∷ limits.blocks ∷ limits.blocks * wait_row
    ∷ limits.variables * limits.blocks ∷ limits.blocks * (limits.dests * param_row) ∷ []

abbrev pub form_tables : Form → List Table
form_tables s =
    (λ i. s.next)  -- 0
    ∷ (λ i. s.makes)  -- 1
    ∷ upto s.next s.target  -- 2
    ∷ upto s.next (λ x. described (s.info x) (s.recorded x))  -- 3
    ∷ cell s.placed  -- 4
    ∷ cell (firsts s.zeros)  -- 5: the calls
    ∷ cell (seconds s.zeros)  -- 6: the blocks
    ∷ rows param_row s.params  -- 7
    ∷ s.owns  -- 8
    ∷ rows wait_row (λ b. firsts (s.pending b))  -- 9: the variables
    ∷ grid limits.blocks (λ v b. plus_one (def s v b))  -- 10
    ∷ rows param_row (λ r. s.args (r / limits.dests) (r % limits.dests))  -- 11
    ∷ []

-- A scheduled call in two cells: 0 and the block to read at; or the parameter plus one and its block.
abbrev pub task_value : Task → ℕ
task_value (look p) = 0
task_value (finish x b) = suc x

abbrev pub task_block : Task → ℕ
task_block (look p) = p
task_block (finish x b) = b

abbrev pub work_sizes : List ℕ
work_sizes = call_room limits ∷ call_room limits ∷ result_room limits ∷ []

-- the tables fill what each list needs
graph_fills : sum graph_sizes ≡ graph_need limits
graph_fills = refl

form_fills : sum form_sizes ≡ form_need limits
form_fills = refl

work_fills : sum work_sizes ≡ work_need limits
work_fills = refl

abbrev pub render_graph : Graph → List ℕ
render_graph g = render graph_sizes (graph_tables g)

abbrev pub render_form : Form → List ℕ
render_form s = render form_sizes (form_tables s)

-- no lookup is under way: zeros
abbrev pub render_work : List ℕ
render_work = render work_sizes []

-- The lent cells and the counts show the graph, the form, the stacks.
pub record Graphs (lent : List ℕ) (c : Counts) (g : Graph) : Type 0 where
  pub cells : Holds graph_sizes lent (graph_tables g)
  pub call : c.call ≡ g.call

pub record Shows (lent : List ℕ) (c : Counts) (s : Form) : Type 0 where
  pub cells : Holds form_sizes lent (form_tables s)
  pub next : c.values ≡ s.next

-- The first cells of table t hold the stack xs, whose top is in front of the list, from its bottom on. What is above its top may be anything.
abbrev pub Stacked : List ℕ → ℕ → List ℕ → Type 0
Stacked lent t xs = (j : ℕ) → j < length xs → j < get_or work_sizes t 0 → get_or lent (base work_sizes t + j) 0 ≡ get_or (reverse xs) j 0

pub record Piles (lent : List ℕ) (ts : List Task) (rs : List ℕ) : Type 0 where
  pub long : sum work_sizes ≤ length lent
  pub values : Stacked lent 0 (map task_value ts)
  pub blocks : Stacked lent 1 (map task_block ts)
  pub held : Stacked lent 2 rs

pub record Stacks (lent : List ℕ) (c : Counts) (ts : List Task) (rs : List ℕ) : Type 0 where
  pub cells : Piles lent ts rs
  pub calls : c.calls ≡ length ts
  pub results : c.results ≡ length rs

-- the lent cells show a configuration of the machine
pub record Shown (fl wl : List ℕ) (c : Counts) (k : Conf) : Type 0 where
  pub form : Shows fl c k.form
  pub work : Stacks wl c k.tasks k.results
