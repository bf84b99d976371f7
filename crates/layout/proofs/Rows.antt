-- One row in the cells: what is read from it, and what it becomes by a push and by a swap-remove. Each is a few stores into the row's own cells.
-- Assumes nothing.
use Prim.Native.Nat.{ℕ, zero, suc, ◌+◌, ◌≤◌, ◌<◌}
use mathlib.Core.Path.{◌≡◌, refl, sym, ap, ◌∙◌, subst}
use mathlib.Core.Logic.{◌≢◌, ◌⊎◌, inl, inr}
use mathlib.Core.List.{List, [], ◌∷◌, ◌++◌}
use native.Mathlib.Omega.{arith}
use lib.ListN.{length, get_or, set, drop, length-append, length-drop, length-set, get_or-append, get_or-eq_default}
use lib.Seq.{get_or-set_same, get_or-set_other, get_or-append_seam, length-take-le, get_or-take, get_or-drop, ext_get_or}
use Rattle.entity.specs.Limits.{limits, zero_room}
use Rattle.definition.specs.Base.{put}
use Rattle.meaning.proofs.Maps.{same?, put_other, put_at}
use Rattle.layout.specs.Cells.{Table, cell}
use Rattle.layout.specs.Rows.{Row, Readable, Pushable, entries, pushed}
use Rattle.layout.proofs.Cells.{below?, Changed}

-- ---- stores into the cells of a row

pub changed_none : (l : List ℕ) (a w : ℕ) (g : Table) → ((i : ℕ) → i < w → get_or l (a + i) 0 ≡ g i) → Changed l l a w g
changed_none l a w g e = record { long = refl; here = e; else = λ i o. refl }

module _ {l l' : List ℕ} {a w : ℕ} {g : Table} (c : Changed l l' a w g) where
  pub changed_as : (g' : Table) → ((i : ℕ) → i < w → g i ≡ g' i) → Changed l l' a w g'
  changed_as g' e = record { long = c.long; here = λ i lt. c.here i lt ∙ e i lt; else = c.else }

  -- one more store: v at place i, which is cell p
  pub changed_set : (i p v : ℕ) → p ≡ a + i → i < w → a + w ≤ length l → Changed l (set l' p v) a w (put i v g)
  changed_set i p v e lt fits = record {
    long = length-set l' p v ∙ c.long;
    here = λ j lj. by j lj (same? j i);
    else = λ j o. get_or-set_other l' p j v 0 (outside j o) ∙ c.else j o;
  }
    where
      outside : (j : ℕ) → (j < a) ⊎ (a + w ≤ j) → j ≢ p
      outside j (inl q) f = omega arith
      outside j (inr q) f = omega arith

      by : (j : ℕ) → j < w → (j ≡ i) ⊎ (j ≢ i) → get_or (set l' p v) (a + j) 0 ≡ put i v g j
      by j lj (inl q) =
          let f : a + j ≡ p = omega arith in
          ap (λ (k : ℕ). get_or (set l' p v) k 0) f ∙ get_or-set_same l' p v 0 (omega (arith, c.long)) ∙ sym (put_at i v g j q)
      by j lj (inr n) = get_or-set_other l' p (a + j) v 0 (λ f. n (omega arith)) ∙ c.here j lj ∙ sym (put_other i v g j n)

-- ---- the row of a list, changed

cell_snoc : (xs : List ℕ) (x i : ℕ) → put 0 (length xs + 1) (put (length xs + 1) x (cell xs)) i ≡ cell (xs ++ x ∷ []) i
cell_snoc xs x zero = rw length-append
cell_snoc xs x (suc i) = put_other 0 (length xs + 1) (put (length xs + 1) x (cell xs)) (suc i) (omega arith) ∙ by (same? i (length xs))
  where
    by : (i ≡ length xs) ⊎ (i ≢ length xs) → put (length xs + 1) x (cell xs) (suc i) ≡ get_or (xs ++ x ∷ []) i 0
    by (inl e) = put_at (length xs + 1) x (cell xs) (suc i) (omega arith) ∙ sym (ap (λ (k : ℕ). get_or (xs ++ x ∷ []) k 0) e ∙ get_or-append_seam xs x [] 0)
    by (inr n) = put_other (length xs + 1) x (cell xs) (suc i) (omega arith) ∙ side (below? i (length xs))
      where
        side : (i < length xs) ⊎ (length xs ≤ i) → get_or xs i 0 ≡ get_or (xs ++ x ∷ []) i 0
        side (inl l) = sym (get_or-append xs (x ∷ []) 0 i l)
        side (inr l) = get_or-eq_default xs 0 l ∙ sym (get_or-eq_default (xs ++ x ∷ []) 0 (rw length-append (omega arith)))

-- ---- what is in a row

module _ (l : List ℕ) (a w : ℕ) (xs : List ℕ) (r : Row l a w xs) where
  pub row_start : Changed l l a w (cell xs)
  row_start = changed_none l a w (cell xs) r.at

  pub row_count : get_or l a 0 ≡ length xs
  row_count = let e : a ≡ a + 0 = omega arith in ap (λ (i : ℕ). get_or l i 0) e ∙ r.at 0 (omega (arith, r.few))

  pub row_entry : (i : ℕ) → i + 1 < w → get_or l (a + 1 + i) 0 ≡ get_or xs i 0
  row_entry i lt = let e : a + 1 + i ≡ a + suc i = omega arith in ap (λ (k : ℕ). get_or l k 0) e ∙ r.at (suc i) (omega arith)

  pub row_entries : entries l a ≡ xs
  row_entries =
      let long = length-take-le (get_or l a 0) (drop (a + 1) l) (omega (arith, row_count, r.few, r.fits, length-drop (a + 1) l)) in
      ext_get_or 0 (entries l a) xs (long ∙ row_count)
      (λ i lt. get_or-take (get_or l a 0) (drop (a + 1) l) i 0 (omega (arith, long)) ∙ get_or-drop (a + 1) l i 0 ∙ row_entry i (omega (arith, long, row_count, r.few)))

  pub row_readable : length xs ≤ zero_room limits → Readable l a
  row_readable le = record { there = omega (arith, row_count, r.few, r.fits); few = omega (arith, row_count) }

  pub row_pushable : length xs + 1 < w → length xs < zero_room limits → Pushable l a
  row_pushable lt le = record { room = omega (arith, row_count, r.fits); few = omega (arith, row_count) }

  pub row_pushed : (x : ℕ) → length xs + 1 < w → Changed l (pushed l a x) a w (cell (xs ++ x ∷ []))
  row_pushed x lt =
      subst (λ (n : ℕ). Changed l (set (set l (a + 1 + n) x) a (n + 1)) a w (cell (xs ++ x ∷ []))) (sym row_count)
      (changed_as (changed_set (changed_set row_start (length xs + 1) (a + 1 + length xs) x (omega arith) lt r.fits) 0 a (length xs + 1) (omega arith) (omega arith) r.fits)
      (cell (xs ++ x ∷ [])) (λ i _. cell_snoc xs x i))
