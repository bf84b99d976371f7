-- The zero log and the blocks placed: tables of one row each. A zero goes to the same place of two rows.
-- Assumes nothing.
use Prim.Native.Nat.{ℕ, ◌+◌, ◌≤◌, ◌<◌}
use mathlib.Core.Path.{◌≡◌, refl, sym, ◌∙◌}
use mathlib.Core.Bool.{true, false}
use mathlib.Core.List.{List, [], ◌∷◌, map-append}
use native.Mathlib.Omega.{arith}
use lib.Dec.{ltb}
use lib.ListN.{length, get_or, set, length-map}
use Rattle.entity.specs.Limits.{limits, pred_room, zero_room}
use Rattle.definition.specs.Base.{has, ◌∷ʳ◌}
use Rattle.definition.specs.Form.{Form}
use Rattle.definition.specs.Read.{log_zero, place_block}
use Rattle.layout.specs.Cells.{base, Holds, cell}
use Rattle.layout.specs.Layout.{firsts, seconds, form_sizes, form_tables, pred_row}
use Rattle.layout.specs.Rows.{Row, Readable, Pushable, pushed, seek}
use Rattle.layout.proofs.Rows.{row_count, row_readable}
use Rattle.layout.proofs.Searches.{row_has}
use Rattle.layout.proofs.Ends.{row_empty, row_last}
use Rattle.layout.proofs.Grids.{row_of}
use Rattle.layout.proofs.Pushes.{row_can_push, row_more}
use Rattle.form.specs.Can.{Cells, CanLog, HasPlaced, CanPlace}

-- ---- the zero log

module _ (l : List ℕ) (s : Form) where
  first_count : length (firsts s.zeros) ≡ length s.zeros
  first_count = length-map s.zeros (λ w. w.0)

  pub zero_count : Cells l s → get_or l (base form_sizes 5) 0 ≡ length s.zeros
  zero_count h = h.at 5 0 (omega arith) ∙ first_count

  module _ (p : CanLog l s) where
    pub log_room : Pushable l (base form_sizes 5)
    log_room = row_can_push form_sizes l (form_tables s) 5 p.cells (firsts s.zeros) refl (omega (arith, first_count, p.row)) (omega (arith, first_count, p.row))

    module _ (k : ℕ) (l₁ : List ℕ) (e₁ : l₁ ≡ pushed l (base form_sizes 5) k) where
      half : Holds form_sizes l₁ (set (form_tables s) 5 (cell (firsts s.zeros ∷ʳ k)))
      half = rw e₁ (row_more form_sizes l (form_tables s) 5 p.cells (firsts s.zeros) refl (omega (arith, first_count, p.row)) k (omega arith))

      second_room : length (seconds s.zeros) < zero_room limits
      second_room = omega (arith, length-map s.zeros (λ w. w.1), p.row)

      pub log_room_2 : Pushable l₁ (base form_sizes 6)
      log_room_2 = row_can_push form_sizes l₁ (set (form_tables s) 5 (cell (firsts s.zeros ∷ʳ k))) 6 half (seconds s.zeros) refl (omega (arith, second_room)) second_room

      pub zero_logged : (b : ℕ) (l₂ : List ℕ) → l₂ ≡ pushed l₁ (base form_sizes 6) b → Cells l₂ (log_zero k b s)
      zero_logged b l₂ e₂ =
          rw (e₂, map-append (λ w. w.0) s.zeros ((k, b) ∷ []), map-append (λ w. w.1) s.zeros ((k, b) ∷ []))
          (row_more form_sizes l₁ (set (form_tables s) 5 (cell (firsts s.zeros ∷ʳ k))) 6 half (seconds s.zeros) refl (omega (arith, second_room)) b (omega arith))

-- ---- the blocks placed

module _ (l : List ℕ) (s : Form) where
  module _ (p : HasPlaced l s) where
    the_row : Row l (base form_sizes 4) pred_row s.placed
    the_row = row_of form_sizes l (form_tables s) 4 p.cells s.placed refl (omega (arith, p.few))

    pub placed_few : (get_or l (base form_sizes 4) 0 ≤ pred_room limits) × (base form_sizes 5 ≤ length l)
    placed_few = (omega (arith, row_count l (base form_sizes 4) pred_row s.placed the_row, p.few), omega (arith, p.cells.long))

    pub placed_readable : Readable l (base form_sizes 4)
    placed_readable = row_readable l (base form_sizes 4) pred_row s.placed the_row (omega (arith, p.few))

    module _ (b : ℕ) where
      pub none_placed : get_or l (base form_sizes 4) 0 ≡ 0 → false ≡ has b s.placed
      none_placed z = sym (row_empty l (base form_sizes 4) pred_row s.placed the_row b z)

      pub last_placed : (get_or l (base form_sizes 4) 0 ≡ 0 → ⊥) → get_or l (base form_sizes 4 + get_or l (base form_sizes 4) 0) 0 ≡ b → true ≡ has b s.placed
      last_placed n e = sym (row_last l (base form_sizes 4) pred_row s.placed the_row b n e)

      pub placed_is : ltb (seek l (base form_sizes 4) b (get_or l (base form_sizes 4) 0) 0) (get_or l (base form_sizes 4) 0) ≡ has b s.placed
      placed_is = row_has l (base form_sizes 4) pred_row s.placed the_row b

  module _ (b : ℕ) (p : CanPlace l b s) where
    pub placed_already : has b s.placed ≡ true → Cells l (place_block b s)
    placed_already e = rw e p.placed.cells

    module _ (e : has b s.placed ≡ false) where
      pub place_room : Pushable l (base form_sizes 4)
      place_room = row_can_push form_sizes l (form_tables s) 4 p.placed.cells s.placed refl (omega (arith, p.row e)) (omega (arith, p.row e))

      pub block_placed : (l₁ : List ℕ) → l₁ ≡ pushed l (base form_sizes 4) b → Cells l₁ (place_block b s)
      block_placed l₁ e₁ = rw (e₁, e) (row_more form_sizes l (form_tables s) 4 p.placed.cells s.placed refl (omega (arith, p.row e)) b (omega arith))
