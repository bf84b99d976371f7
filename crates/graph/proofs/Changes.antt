-- What the cells show after each change of the graph: the law of the table that is changed; the other tables are as they were.
-- Assumes nothing.
use Prim.Native.Nat.{ℕ, ◌+◌, ◌<◌}
use mathlib.Core.Path.{◌≡◌, refl, ◌∙◌}
use mathlib.Core.Bool.{true}
use mathlib.Core.List.{List}
use native.Mathlib.Omega.{arith}
use lib.Dec.{ltb}
use borrow.Author.Tests.{lt-ltb}
use lib.ListN.{length, set, get_or}
use Rattle.entity.specs.Limits.{limits}
use Rattle.definition.specs.Base.{put, position, ◌∷ʳ◌}
use Rattle.definition.specs.Form.{Graph, with_types, with_dests, with_preds, with_declared}
use Rattle.definition.specs.Session.{swap_out}
use Rattle.layout.specs.Cells.{base}
use Rattle.layout.specs.Layout.{type_row, dest_row, pred_row, graph_sizes, graph_tables}
use Rattle.std.specs.Prelude.{Option, Some, None, if◌then◌else◌}
use Rattle.layout.specs.Rows.{Row, Pushable, pushed, swapped, seek}
use Rattle.layout.proofs.Rows.{row_count, row_pushable}
use Rattle.layout.proofs.Searches.{position_below, row_place}
use Rattle.layout.proofs.Tables.{mark_set, list_pushed, rows_pushed, rows_swapped}
use Rattle.graph.specs.Seen.{Shown, dests_start, preds_start}
use Rattle.graph.specs.Seen.{CanDeclareVariable, CanDeclareDest, CanDeclarePredecessor, CanRemovePredecessor}
use Rattle.graph.proofs.Cells.{types_row, dests_row, preds_row, preds_few, preds_room}

module _ {cells : List ℕ} {g : Graph} (s : CanDeclareVariable cells g) where
  pub variable_room : Pushable cells (base graph_sizes 1)
  variable_room = row_pushable cells (base graph_sizes 1) type_row g.types (types_row s.seen) (omega (arith, s.room)) (omega (arith, s.room))

  pub variable_declared : (ty : ℕ) → Shown (pushed cells (base graph_sizes 1) ty) (with_types g (g.types ∷ʳ ty))
  variable_declared ty = list_pushed graph_sizes cells (graph_tables g) 1 s.seen.cells (omega arith) g.types ty refl (omega (arith, s.room))

module _ {cells : List ℕ} {g : Graph} {a : ℕ} (p : ℕ) (s : CanDeclareDest cells p g) (lp : p < limits.blocks) (e : a ≡ dests_start p) where
  pub dest_room : Pushable cells a
  dest_room = row_pushable cells a dest_row (g.dests p) (dests_row s.seen p lp e) (omega (arith, s.room)) (omega (arith, s.room))

  pub dest_declared : (b : ℕ) → Shown (pushed cells a b) (with_dests g (put p (g.dests p ∷ʳ b) g.dests))
  dest_declared b = rw e (rows_pushed graph_sizes cells (graph_tables g) 6 s.seen.cells (omega arith) dest_row g.dests p refl (omega arith) b (omega (arith, s.room)))

module _ {cells : List ℕ} {g : Graph} {a : ℕ} (b : ℕ) (lb : b < limits.blocks) (e : a ≡ preds_start b) (p : ℕ) where
  module _ (s : CanDeclarePredecessor cells b p g) (lp : p < limits.blocks) where
    few : length (g.preds b) < limits.blocks
    few = preds_room s.seen b p lp s.new

    pub predecessor_room : Pushable cells a
    predecessor_room = row_pushable cells a pred_row (g.preds b) (preds_row s.seen b lb e) (omega (arith, few)) (omega (arith, few))

    pushed_there : Shown (pushed cells a p) (with_preds g (put b (g.preds b ∷ʳ p) g.preds))
    pushed_there = rw e (rows_pushed graph_sizes cells (graph_tables g) 7 s.seen.cells (omega arith) pred_row g.preds b refl (omega arith) p (omega (arith, few)))

    pub predecessor_declared : Shown (set (pushed cells a p) (base graph_sizes 4 + p) 1) (with_declared (with_preds g (put b (g.preds b ∷ʳ p) g.preds)) (put p true g.declared))
    predecessor_declared = mark_set graph_sizes (pushed cells a p) (graph_tables (with_preds g (put b (g.preds b ∷ʳ p) g.preds))) 4 pushed_there (omega arith) g.declared p refl lp

  -- k is where the search ends
  module _ (s : CanRemovePredecessor cells b p g) (k : ℕ) (found : k ≡ seek cells a p (get_or cells a 0) 0) where
    row : Row cells a pred_row (g.preds b)
    row = preds_row s.seen b lb e

    pub predecessor_place : k ≡ position 0 p (g.preds b)
    predecessor_place = found ∙ row_place cells a pred_row (g.preds b) row p

    pub place_taken : k < get_or cells a 0
    place_taken = omega (arith, predecessor_place, position_below p (g.preds b) s.there, row_count cells a pred_row (g.preds b) row)

    -- so the search answers it
    pub place_found : {r : Option ℕ} → r ≡ (if ltb k (get_or cells a 0) then Some k else None) → r ≡ Some k
    place_found {r} e = rw (lt-ltb k (get_or cells a 0) place_taken) at e

    pub predecessor_removed : Shown (swapped cells a k) (with_preds g (put b (swap_out p (g.preds b)) g.preds))
    predecessor_removed =
        rw (predecessor_place, e)
        (rows_swapped graph_sizes cells (graph_tables g) 7 s.seen.cells (omega arith) pred_row g.preds b refl (omega arith) p
        (omega (arith, preds_few s.seen b)) (s.seen.sound.nodup b) s.there)
