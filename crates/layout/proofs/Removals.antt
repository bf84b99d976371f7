-- Entries leave a row: those equal to x, the others keeping their order; or all. Behind the loop stand the kept ones, then zeros, then what is
-- still to be seen, so at its end the row is the list that is left.
-- Assumes nothing.
use Prim.Native.Nat.{ℕ, zero, suc, ◌+◌, ◌-◌, ◌≤◌, ◌<◌}
use mathlib.Core.Path.{◌≡◌, refl, sym, ap, ◌∙◌, subst}
use mathlib.Core.Logic.{◌≢◌, ◌⊎◌, inl, inr}
use mathlib.Core.Bool.{cond}
use mathlib.Core.List.{List, [], ◌∷◌, ◌++◌, append-nil}
use native.Mathlib.Omega.{arith}
use lib.Dec.{eqb}
use lib.ListN.{length, get_or, set, length-append, get_or-append, get_or-eq_default}
use lib.Seq.{get_or-append_seam, append_snoc}
use Rattle.definition.specs.Base.{put, without}
use Rattle.meaning.proofs.Maps.{same?, put_other, put_at, eqb_same, eqb_diff}
use Rattle.layout.specs.Cells.{Table, cell}
use Rattle.layout.specs.Rows.{Row, sift, wipe}
use Rattle.layout.proofs.Cells.{below?, Changed}
use Rattle.layout.proofs.Rows.{changed_as, changed_set, row_start, row_count}

-- the row T while x leaves it: the kept ones, zeros up to place i, the rest
record Sifting (T : Table) (kept : List ℕ) (i : ℕ) (rest : List ℕ) : Type 0 where
  early : (j : ℕ) → j < length kept → T (suc j) ≡ get_or kept j 0
  gap : (j : ℕ) → length kept ≤ j → j < i → T (suc j) ≡ 0
  late : (j : ℕ) → T (suc (i + j)) ≡ get_or rest j 0

module _ (T : Table) (kept : List ℕ) (i : ℕ) where
  sifting_skip : (y : ℕ) (rest : List ℕ) → length kept ≤ i → Sifting T kept i (y ∷ rest) → Sifting (put (i + 1) 0 T) kept (i + 1) rest
  sifting_skip y rest le s = record {
    early = λ j lt. put_other (i + 1) 0 T (suc j) (omega arith) ∙ s.early j lt;
    gap = λ j ge lt. by j ge lt (same? j i);
    late = λ j. let e : suc (i + 1 + j) ≡ suc (i + suc j) = omega arith in put_other (i + 1) 0 T (suc (i + 1 + j)) (omega arith) ∙ ap T e ∙ s.late (suc j);
  }
    where
      by : (j : ℕ) → length kept ≤ j → j < i + 1 → (j ≡ i) ⊎ (j ≢ i) → put (i + 1) 0 T (suc j) ≡ 0
      by j ge lt (inl e) = put_at (i + 1) 0 T (suc j) (omega arith)
      by j ge lt (inr n) = put_other (i + 1) 0 T (suc j) (omega arith) ∙ s.gap j ge (omega arith)

  sifting_keep : (y : ℕ) (rest : List ℕ) → length kept < i → Sifting T kept i rest → Sifting (put (length kept + 1) y T) (kept ++ y ∷ []) i rest
  sifting_keep y rest lt s = record {
    early = λ j lj. early j lj (same? j (length kept));
    gap = λ j ge lj. let e = length-append kept (y ∷ []) in put_other (length kept + 1) y T (suc j) (omega (arith, e)) ∙ s.gap j (omega (arith, e)) lj;
    late = λ j. put_other (length kept + 1) y T (suc (i + j)) (omega arith) ∙ s.late j;
  }
    where
      early : (j : ℕ) → j < length (kept ++ y ∷ []) → (j ≡ length kept) ⊎ (j ≢ length kept) → put (length kept + 1) y T (suc j) ≡ get_or (kept ++ y ∷ []) j 0
      early j lj (inl e) = put_at (length kept + 1) y T (suc j) (omega arith) ∙ sym (ap (λ (k : ℕ). get_or (kept ++ y ∷ []) k 0) e ∙ get_or-append_seam kept y [] 0)
      early j lj (inr n) =
          let lt : j < length kept = omega (arith, length-append kept (y ∷ [])) in
          put_other (length kept + 1) y T (suc j) (omega arith) ∙ s.early j lt ∙ sym (get_or-append kept (y ∷ []) 0 j lt)

  sifting_end : Sifting T kept i [] → (j : ℕ) → put 0 (length kept) T j ≡ cell kept j
  sifting_end s zero = refl
  sifting_end s (suc j) = put_other 0 (length kept) T (suc j) (omega arith) ∙ by (below? j (length kept)) (below? j i)
    where
      by : (j < length kept) ⊎ (length kept ≤ j) → (j < i) ⊎ (i ≤ j) → T (suc j) ≡ get_or kept j 0
      by (inl lt) q = s.early j lt
      by (inr ge) (inl lt) = s.gap j ge lt ∙ sym (get_or-eq_default kept 0 ge)
      by (inr ge) (inr le) = let e : suc j ≡ suc (i + (j - i)) = omega arith in ap T e ∙ s.late (j - i) ∙ sym (get_or-eq_default kept 0 ge)

module _ (l : List ℕ) (a w x : ℕ) (fits : a + w ≤ length l) where
  sift_changes : (rest kept : List ℕ) (i k : ℕ) (l' : List ℕ) (T : Table) → k ≡ length kept → k ≤ i → i + length rest < w → Changed l l' a w T → Sifting T kept i rest
      → Changed l (sift a x (length rest) i k l') a w (cell (kept ++ without x rest))
  unfolding sift
  sift_changes [] kept i k l' T e le lt c s =
      rw (append-nil, e)
      (changed_as (changed_set c 0 a (length kept) (omega arith) (omega arith) fits) (cell kept) (λ j _. sifting_end T kept i s j))
  sift_changes (y ∷ rest) kept i k l' T e le lt c s = rw at (by (same? y x) (sift_changes rest))
    where
      at : get_or l' (a + 1 + i) 0 ≡ y
      at =
          let f : a + 1 + i ≡ a + suc (i + 0) = omega arith in
          ap (λ (j : ℕ). get_or l' j 0) f ∙ c.here (suc (i + 0)) (omega arith) ∙ s.late 0

      T₁ : Table
      T₁ = put (i + 1) 0 T

      l₁ : List ℕ
      l₁ = set l' (a + 1 + i) 0

      c₁ : Changed l l₁ a w T₁
      c₁ = changed_set c (i + 1) (a + 1 + i) 0 (omega arith) (omega arith) fits

      s₁ : Sifting T₁ kept (i + 1) rest
      s₁ = sifting_skip T kept i y rest (omega arith) s

      by : (y ≡ x) ⊎ (y ≢ x)
          → ((kept : List ℕ) (i k : ℕ) (l' : List ℕ) (T : Table) → k ≡ length kept → k ≤ i → i + length rest < w → Changed l l' a w T → Sifting T kept i rest
          → Changed l (sift a x (length rest) i k l') a w (cell (kept ++ without x rest)))
          → Changed l (cond (eqb y x) (sift a x (length rest) (i + 1) k l₁) (sift a x (length rest) (i + 1) (k + 1) (set l₁ (a + 1 + k) y))) a w (cell (kept ++ without x (y ∷ rest)))
      by (inl q) rec = rw (q, eqb_same x) (rec kept (i + 1) k l₁ T₁ e (omega arith) (omega arith) c₁ s₁)
      by (inr n) rec =
          let f : k + 1 ≡ length (kept ++ y ∷ []) = omega (arith, length-append kept (y ∷ [])) in
          rw (eqb_diff y x n, ← append_snoc kept y (without x rest))
          (rec (kept ++ y ∷ []) (i + 1) (k + 1) (set l₁ (a + 1 + k) y) (put (length kept + 1) y T₁) f (omega arith) (omega arith)
          (changed_set c₁ (length kept + 1) (a + 1 + k) y (omega arith) (omega arith) fits) (sifting_keep T₁ kept (i + 1) y rest (omega arith) s₁))

  -- all leave
  wipe_changes : (m i : ℕ) (l' : List ℕ) (T : Table) → i + m < w → Changed l l' a w T → ((j : ℕ) → j < i → T (suc j) ≡ 0) → ((j : ℕ) → i + m ≤ j → T (suc j) ≡ 0) → Changed l (wipe a m i l') a w (cell [])
  unfolding wipe
  wipe_changes zero i l' T lt c low high = changed_as (changed_set c 0 a 0 (omega arith) (omega arith) fits) (cell []) (λ j _. at j)
    where
      at : (j : ℕ) → put 0 0 T j ≡ cell [] j
      at zero = refl
      at (suc j) = put_other 0 0 T (suc j) (omega arith) ∙ by (below? j i)
        where
          by : (j < i) ⊎ (i ≤ j) → T (suc j) ≡ 0
          by (inl q) = low j q
          by (inr q) = high j (omega arith)
  wipe_changes (suc m) i l' T lt c low high =
      wipe_changes m (i + 1) (set l' (a + 1 + i) 0) (put (i + 1) 0 T) (omega arith) (changed_set c (i + 1) (a + 1 + i) 0 (omega arith) (omega arith) fits)
      (λ j q. by j q (same? j i)) (λ j q. put_other (i + 1) 0 T (suc j) (omega arith) ∙ high j (omega arith))
    where
      by : (j : ℕ) → j < i + 1 → (j ≡ i) ⊎ (j ≢ i) → put (i + 1) 0 T (suc j) ≡ 0
      by j q (inl e) = put_at (i + 1) 0 T (suc j) (omega arith)
      by j q (inr n) = put_other (i + 1) 0 T (suc j) (omega arith) ∙ low j (omega arith)

module _ (l : List ℕ) (a w : ℕ) (xs : List ℕ) (r : Row l a w xs) where
  pub row_sifted : (x : ℕ) → Changed l (sift a x (get_or l a 0) 0 0 l) a w (cell (without x xs))
  row_sifted x =
      subst (λ (n : ℕ). Changed l (sift a x n 0 0 l) a w (cell (without x xs))) (sym (row_count l a w xs r))
      (sift_changes l a w x r.fits xs [] 0 0 l (cell xs) refl (omega arith) (omega (arith, r.few)) (row_start l a w xs r)
      record { early = λ j lt. absurd (omega arith); gap = λ j ge lt. absurd (omega arith); late = λ j. let e : 0 + j ≡ j = omega arith in ap (λ (k : ℕ). cell xs (suc k)) e })

  pub row_wiped : Changed l (wipe a (get_or l a 0) 0 l) a w (cell [])
  row_wiped =
      subst (λ (n : ℕ). Changed l (wipe a n 0 l) a w (cell [])) (sym (row_count l a w xs r))
      (wipe_changes l a w 0 r.fits (length xs) 0 l (cell xs) (omega (arith, r.few)) (row_start l a w xs r) (λ j lt. absurd (omega arith)) (λ j le. get_or-eq_default xs 0 (omega arith)))
