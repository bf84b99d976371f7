-- Searching a row finds the place that the definition's `position` gives, and whether that is below the count is `has`: entry by entry.
-- Assumes nothing.
use Prim.Native.Nat.{ℕ, suc, ◌+◌, ◌<◌}
use mathlib.Core.Path.{◌≡◌, refl, ap, ◌∙◌}
use mathlib.Core.Bool.{Bool, true, false, cond, ◌||◌}
use mathlib.Core.List.{List, [], ◌∷◌}
use native.Mathlib.Omega.{arith}
use native.Mathlib.Numerals.{add-one}
use lib.Dec.{eqb, ltb}
use borrow.Author.Tests.{ltb-true, lt-ltb, le-ltb}
use lib.ListN.{length, get_or}
use Rattle.definition.specs.Base.{has, position}
use Rattle.layout.specs.Rows.{Row, seek}
use Rattle.layout.proofs.Rows.{row_count, row_entry}

seek_position : (l : List ℕ) (a x : ℕ) (xs : List ℕ) (i : ℕ) → ((j : ℕ) → j < length xs → get_or l (a + 1 + (i + j)) 0 ≡ get_or xs j 0) → seek l a x (length xs) i ≡ position i x xs
unfolding seek
seek_position l a x [] i h = refl
seek_position l a x (y ∷ xs) i h =
    let e : a + 1 + i ≡ a + 1 + (i + 0) = omega arith in
    let here : get_or l (a + 1 + i) 0 ≡ y = ap (λ (k : ℕ). get_or l k 0) e ∙ h 0 (omega arith) in
    let next : i + 1 ≡ suc i = add-one i in
    let rest : seek l a x (length xs) (suc i) ≡ position (suc i) x xs = seek_position l a x xs (suc i) (λ j lt. let f : a + 1 + (suc i + j) ≡ a + 1 + (i + suc j) = omega arith in ap (λ (k : ℕ). get_or l k 0) f ∙ h (suc j) (omega arith)) in
    rw (here, next, rest)

pub position_has : (n x : ℕ) (xs : List ℕ) → ltb (position n x xs) (n + length xs) ≡ has x xs
position_has n x [] = le-ltb n (n + 0) (omega arith)
position_has n x (y ∷ ys) = by (eqb x y) (position_has (suc n) x ys)
  where
    by : (z : Bool) → ltb (position (suc n) x ys) (suc n + length ys) ≡ has x ys → ltb (cond z n (position (suc n) x ys)) (n + suc (length ys)) ≡ z || has x ys
    by true rec = lt-ltb n (n + suc (length ys)) (omega arith)
    by false rec = let e : n + suc (length ys) ≡ suc n + length ys = omega arith in rw e rec

pub position_below : (x : ℕ) (xs : List ℕ) → has x xs ≡ true → position 0 x xs < length xs
position_below x xs h = omega (arith, ltb-true (position 0 x xs) (0 + length xs) (position_has 0 x xs ∙ h))

module _ (l : List ℕ) (a w : ℕ) (xs : List ℕ) (r : Row l a w xs) (x : ℕ) where
  pub row_place : seek l a x (get_or l a 0) 0 ≡ position 0 x xs
  row_place =
      ap (λ (n : ℕ). seek l a x n 0) (row_count l a w xs r)
      ∙ seek_position l a x xs 0 (λ j lt. let e : a + 1 + (0 + j) ≡ a + 1 + j = omega arith in ap (λ (k : ℕ). get_or l k 0) e ∙ row_entry l a w xs r j (omega (arith, r.few)))

  pub row_has : ltb (seek l a x (get_or l a 0) 0) (get_or l a 0) ≡ has x xs
  row_has =
      let e : length xs ≡ 0 + length xs = omega arith in
      ap (λ (k : ℕ). ltb k (get_or l a 0)) row_place ∙ ap (λ (n : ℕ). ltb (position 0 x xs) n) (row_count l a w xs r ∙ e) ∙ position_has 0 x xs
