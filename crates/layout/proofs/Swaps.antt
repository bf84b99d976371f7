-- A swap-remove: the last entry moves into the place of the one that leaves. In a list without repeats that is the definition's `swap_out`.
-- Assumes nothing.
use Prim.Native.Nat.{ℕ, zero, suc, ◌+◌, ◌-◌, ◌≤◌, ◌<◌}
use mathlib.Core.Path.{◌≡◌, refl, sym, ap, ◌∙◌, subst}
use mathlib.Core.Logic.{◌≢◌, ◌⊎◌, inl, inr}
use mathlib.Core.Bool.{Bool, true, false, cond}
use mathlib.Core.List.{List, [], ◌∷◌, map}
use native.Mathlib.Omega.{arith}
use native.Mathlib.Nat.{not-suc-le-zero, le_of_suc-le-suc}
use lib.Dec.{eqb}
use lib.ListN.{length, get_or, set, length-set, get_or-eq_default}
use lib.Seq.{get_or-set_same, get_or-set_other}
use Rattle.definition.specs.Base.{put, has, position}
use Rattle.definition.specs.Session.{last, but_last, swap_out}
use Rattle.meaning.specs.Path.{In}
use Rattle.meaning.proofs.Maps.{same?, put_other, put_at, put_same, eqb_same, eqb_diff}
use Rattle.meaning.proofs.Lists.{Nodup}
use Rattle.meaning.proofs.Maps.{false_true}
use Rattle.layout.specs.Cells.{cell}
use Rattle.layout.specs.Rows.{Row, swapped}
use Rattle.layout.proofs.Cells.{below?, Changed}
use Rattle.layout.proofs.Rows.{changed_as, changed_set, row_start, row_count}

-- ---- lists

-- the last entry, wherever the search for it starts
pub last_at : (d : ℕ) (x : ℕ) (xs : List ℕ) → get_or (x ∷ xs) (length xs) 0 ≡ last d (x ∷ xs)
last_at d x [] = refl
last_at d x (y ∷ ys) = last_at x y ys

length_but_last : (xs : List ℕ) → length (but_last xs) ≡ length xs - 1
length_but_last [] = refl
length_but_last (x ∷ []) = refl
length_but_last (x ∷ y ∷ ys) = let e = length_but_last (y ∷ ys) in omega arith

but_last_at : (xs : List ℕ) (j : ℕ) → suc j < length xs → get_or (but_last xs) j 0 ≡ get_or xs j 0
but_last_at [] j lt = refl
but_last_at (x ∷ []) j lt = absurd (not-suc-le-zero (le_of_suc-le-suc lt))
but_last_at (x ∷ y ∷ ys) zero lt = refl
but_last_at (x ∷ y ∷ ys) (suc j) lt = but_last_at (y ∷ ys) j (le_of_suc-le-suc lt)

-- the row of a list without its last entry, and of a list with one entry set
cell_but_last : (xs : List ℕ) (j : ℕ) → 0 < length xs → put 0 (length xs - 1) (put (length xs) 0 (cell xs)) j ≡ cell (but_last xs) j
cell_but_last xs zero lt = put_same 0 (length xs - 1) (put (length xs) 0 (cell xs)) ∙ sym (length_but_last xs)
cell_but_last xs (suc j) lt = put_other 0 (length xs - 1) (put (length xs) 0 (cell xs)) (suc j) (omega arith) ∙ by (same? (suc j) (length xs)) (below? (suc j) (length xs))
  where
    none : length xs ≤ suc j → 0 ≡ get_or (but_last xs) j 0
    none le = sym (get_or-eq_default (but_last xs) 0 (omega (arith, length_but_last xs)))

    by : (suc j ≡ length xs) ⊎ (suc j ≢ length xs) → (suc j < length xs) ⊎ (length xs ≤ suc j) → put (length xs) 0 (cell xs) (suc j) ≡ get_or (but_last xs) j 0
    by (inl e) q = put_at (length xs) 0 (cell xs) (suc j) e ∙ none (omega arith)
    by (inr n) (inl lt) = put_other (length xs) 0 (cell xs) (suc j) n ∙ sym (but_last_at xs j lt)
    by (inr n) (inr le) = put_other (length xs) 0 (cell xs) (suc j) n ∙ get_or-eq_default xs 0 (omega arith) ∙ none le

cell_set : (xs : List ℕ) (k v j : ℕ) → k < length xs → put (k + 1) v (cell xs) j ≡ cell (set xs k v) j
cell_set xs k v zero lt = put_other (k + 1) v (cell xs) 0 (omega arith) ∙ sym (length-set xs k v)
cell_set xs k v (suc j) lt = by (same? j k)
  where
    by : (j ≡ k) ⊎ (j ≢ k) → put (k + 1) v (cell xs) (suc j) ≡ get_or (set xs k v) j 0
    by (inl e) = put_at (k + 1) v (cell xs) (suc j) (omega arith) ∙ sym (ap (λ (i : ℕ). get_or (set xs k v) i 0) e ∙ get_or-set_same xs k v 0 lt)
    by (inr n) = put_other (k + 1) v (cell xs) (suc j) (λ q. n (omega arith)) ∙ sym (get_or-set_other xs k j v 0 n)

-- the row of xs becomes that of xs with v at k, without its last entry
cell_swapped : (xs : List ℕ) (k v j : ℕ) → k < length xs → put 0 (length xs - 1) (put (length xs) 0 (put (k + 1) v (cell xs))) j ≡ cell (but_last (set xs k v)) j
cell_swapped xs k v j lt =
    ap (λ (q : ℕ). cond (eqb j 0) (length xs - 1) (cond (eqb j (length xs)) 0 q)) (cell_set xs k v j lt)
    ∙ ap (λ (n : ℕ). put 0 (n - 1) (put n 0 (cell (set xs k v))) j) (sym (length-set xs k v)) ∙ cell_but_last (set xs k v) j (rw length-set (omega arith))

-- ---- the definition's swap_out

module _ (x v : ℕ) where
  abbrev swap : ℕ → ℕ
  swap q = cond (eqb q x) v q

  untouched : (xs : List ℕ) → (In x xs → ⊥) → map swap xs ≡ xs
  untouched [] n = refl
  untouched (y ∷ ys) n = rw (eqb_diff y x (λ e. n (inl (sym e))), untouched ys (λ i. n (inr i)))

  position_suc : (n : ℕ) (xs : List ℕ) → position (suc n) x xs ≡ suc (position n x xs)
  position_suc n [] = refl
  position_suc n (y ∷ ys) = by (eqb x y) (position_suc (suc n) ys)
    where
      by : (z : Bool) → position (suc (suc n)) x ys ≡ suc (position (suc n) x ys) → cond z (suc n) (position (suc (suc n)) x ys) ≡ suc (cond z n (position (suc n) x ys))
      by true e = refl
      by false e = e

  swap_set : (xs : List ℕ) → Nodup xs → has x xs ≡ true → map swap xs ≡ set xs (position 0 x xs) v
  swap_set [] nd h = absurd (false_true refl h)
  swap_set (y ∷ ys) nd h = by (same? x y) h (swap_set ys nd.1)
    where
      by : (x ≡ y) ⊎ (x ≢ y) → has x (y ∷ ys) ≡ true → (has x ys ≡ true → map swap ys ≡ set ys (position 0 x ys) v) → map swap (y ∷ ys) ≡ set (y ∷ ys) (position 0 x (y ∷ ys)) v
      by (inl e) h rec = rw (← e, eqb_same x, untouched ys (λ i. nd.0 (subst (λ (k : ℕ). In k ys) e i)))
      by (inr n) h rec =
          let d : eqb x y ≡ false = eqb_diff x y n in
          let t : has x ys ≡ true = rw d at h in
          rw (d, eqb_diff y x (λ e. n (sym e)), position_suc 0 ys, rec t)

pub swap_out_set : (x : ℕ) (xs : List ℕ) → Nodup xs → has x xs ≡ true → but_last (set xs (position 0 x xs) (last 0 xs)) ≡ swap_out x xs
swap_out_set x [] nd h = absurd (false_true refl h)
swap_out_set x (y ∷ ys) nd h = ap but_last (sym (swap_set x (last y ys) (y ∷ ys) nd h))

-- ---- in a row

module _ (l : List ℕ) (a w : ℕ) (xs : List ℕ) (r : Row l a w xs) (k : ℕ) (lt : k < length xs) where
  last_cell : get_or l (a + length xs) 0 ≡ last 0 xs
  last_cell = r.at (length xs) r.few ∙ by xs lt
    where
      by : (xs : List ℕ) → k < length xs → cell xs (length xs) ≡ last 0 xs
      by [] lt = absurd (not-suc-le-zero lt)
      by (x ∷ xs) lt = last_at 0 x xs

  pub row_swapped : Changed l (swapped l a k) a w (cell (but_last (set xs k (last 0 xs))))
  row_swapped =
      rw (row_count l a w xs r, last_cell)
      (changed_as (changed_set (changed_set (changed_set (row_start l a w xs r) (k + 1) (a + 1 + k) (last 0 xs) (omega arith) (omega (arith, r.few)) r.fits)
      (length xs) (a + length xs) 0 refl r.few r.fits) 0 a (length xs - 1) (omega arith) (omega (arith, r.few)) r.fits)
      (cell (but_last (set xs k (last 0 xs)))) (λ j _. cell_swapped xs k (last 0 xs) j lt))
