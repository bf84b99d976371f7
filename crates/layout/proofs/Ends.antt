-- The end of a row: an empty row has no entry, and what stands in the last cell in use is one. So these two need no search.
-- Assumes nothing.
use Prim.Native.Nat.{ℕ, zero, suc, ◌+◌, ◌-◌, ◌<◌}
use mathlib.Core.Path.{◌≡◌, refl, sym, ap, ◌∙◌}
use mathlib.Core.Logic.{◌≢◌}
use mathlib.Core.Bool.{Bool, true, false, ◌||◌}
use mathlib.Core.List.{List, [], ◌∷◌}
use native.Mathlib.Omega.{arith}
use native.Mathlib.Nat.{not-suc-le-zero, le_of_suc-le-suc}
use lib.Dec.{eqb}
use lib.ListN.{length, get_or}
use Rattle.definition.specs.Base.{has}
use Rattle.meaning.proofs.Maps.{eqb_same}
use Rattle.layout.specs.Rows.{Row}
use Rattle.layout.proofs.Rows.{row_count, row_entry}

has_at : (xs : List ℕ) (i : ℕ) → i < length xs → has (get_or xs i 0) xs ≡ true
has_at [] i lt = absurd (not-suc-le-zero lt)
has_at (x ∷ xs) zero lt = ap (λ (z : Bool). z || has x xs) (eqb_same x)
has_at (x ∷ xs) (suc i) lt = by (eqb (get_or xs i 0) x) (has_at xs i (le_of_suc-le-suc lt))
  where
    by : (z : Bool) → has (get_or xs i 0) xs ≡ true → z || has (get_or xs i 0) xs ≡ true
    by true h = refl
    by false h = h

has_none : (x : ℕ) (xs : List ℕ) → length xs ≡ 0 → has x xs ≡ false
has_none x [] e = refl
has_none x (y ∷ ys) e = absurd (omega arith)

module _ (l : List ℕ) (a w : ℕ) (xs : List ℕ) (r : Row l a w xs) (x : ℕ) where
  pub row_empty : get_or l a 0 ≡ 0 → has x xs ≡ false
  row_empty z = has_none x xs (sym (row_count l a w xs r) ∙ z)

  pub row_last : get_or l a 0 ≢ 0 → get_or l (a + get_or l a 0) 0 ≡ x → has x xs ≡ true
  row_last n e =
      let k = length xs - 1 in
      let count = row_count l a w xs r in
      let lt : k < length xs = omega (arith, n) in
      let at : a + get_or l a 0 ≡ a + 1 + k = omega (arith, count) in
      let is : get_or xs k 0 ≡ x = sym (row_entry l a w xs r k (omega (arith, r.few))) ∙ ap (λ (i : ℕ). get_or l i 0) (sym at) ∙ e in
      rw is at (has_at xs k lt)
