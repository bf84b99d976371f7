-- The limits of docs/RULES.md, and the rooms that follow from them. To raise a limit, edit its number in `limits` and in src/lib.rt.
-- Assumes nothing.
use Rattle.std.specs.Prelude.{ℕ, suc, ◌+◌, ◌*◌}

pub record Limits : Type 0 where
  pub blocks : ℕ
  pub variables : ℕ
  pub dests : ℕ  -- destinations of a branch
  pub made : ℕ  -- values that calls of kinds 3 and 15 make
  pub own_params : ℕ  -- caller's parameters of a block
  pub calls : ℕ  -- calls of a session

abbrev pub limits : Limits
limits = record { blocks = 64; variables = 64; dests = 8; made = 4096; own_params = 64; calls = 16384 }

-- a row that holds a list of up to n entries: its count, then its entries
abbrev pub row_cells : ℕ → ℕ
row_cells n = suc n

module _ (l : Limits) where
  -- a variable causes at most one zero per block, which is one row of the log
  abbrev pub zero_room : ℕ
  zero_room = l.blocks * l.variables

  -- and three values: a parameter, and the zero in at most two steps
  abbrev pub value_room : ℕ
  value_room = l.made + 3 * zero_room

  -- variables pending in a block
  abbrev pub wait_room : ℕ
  wait_room = l.variables

  -- parameters of a block, arguments of a destination: the builder's, one for a variable, and the caller's
  abbrev pub param_room : ℕ
  param_room = l.variables + l.own_params

  -- predecessors of a block, blocks placed
  abbrev pub pred_room : ℕ
  pred_room = l.blocks

  -- calls scheduled in a run: each block is settled once, and read once for each destination that names it
  abbrev pub call_room : ℕ
  call_room = l.blocks * suc l.dests

  -- results held in a run: one for each read, and the answer
  abbrev pub result_room : ℕ
  result_room = suc (l.blocks * l.dests)

  -- the graph's cells: block count; types; branch marks; sealed marks; declared marks; variables' marks; destinations; predecessors
  abbrev pub graph_need : ℕ
  graph_need =
      1 + row_cells l.variables + l.blocks + l.blocks + l.blocks + l.variables
      + l.blocks * row_cells l.dests + l.blocks * row_cells pred_room

  -- the form's cells: counts of values and of made ones; target and description of each value; blocks placed; the zeros' calls and blocks;
  -- parameters; how many of them are the caller's; pending variables; last definitions; arguments
  abbrev pub form_need : ℕ
  form_need =
      2 + 2 * value_room + row_cells pred_room + 2 * row_cells zero_room
      + l.blocks * row_cells param_room + l.blocks + l.blocks * row_cells wait_room
      + l.variables * l.blocks + l.blocks * (l.dests * row_cells param_room)

  -- the work cells: two for each scheduled call, one for each result
  abbrev pub work_need : ℕ
  work_need = 2 * call_room + result_room
