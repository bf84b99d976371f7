-- A row's entries are one part of the list: where an entry is in that part is what the search finds, and zeros over the count and that part are what the
-- wiping, cell by cell, leaves.
-- Assumes nothing.
use Prim.Native.Nat.{ℕ, zero, suc, ◌+◌, ◌-◌, ◌<◌}
use mathlib.Core.Logic.{inl, inr}
use mathlib.Core.Path.{◌≡◌, refl, sym, ap, ◌∙◌, subst}
use mathlib.Core.Bool.{Bool, true, false, cond}
use mathlib.Core.List.{List, append_assoc}
use native.Mathlib.Nat.{add-zero, zero-add}
use native.Mathlib.Omega.{arith}
use lib.Dec.{eqb, ltb}
use borrow.Author.Tests.{eq-eqb, ne_eqb, ltb-true}
use borrow.Rule.Slice.PartMut.{put_mid}
use lib.ListN.{length, get_or, set, take, drop, replicate, length-replicate, length-take, length-drop}
use lib.Seq.{paste}
use Rattle.std.proofs.lemmas.List.{drop_more, take_more, take_all, set_at, drop-drop}
use Rattle.std.proofs.lemmas.List.Edits.{paste_none, fill_from_more}
use Rattle.std.specs.Prelude.{Option, Some, None}
use Rattle.std.specs.Option.{MatchOption, IsSomeAnd}
use Rattle.std.specs.List.{position_or_len}
use Rattle.meaning.proofs.Maps.{same?}
use Rattle.layout.specs.Rows.{seek, wipe}

module _ (l : List ℕ) (a : ℕ) where
  -- of the m entries from the one at i on
  part_place : (x m i : ℕ) → a + i + m < length l → i + position_or_len (λ y. eqb y x) (take m (drop (a + 1 + i) l)) ≡ seek l a x m i
  unfolding seek
  part_place x zero i h = add-zero i
  part_place x (suc m) i h =
      let here : a + 1 + i < length l = omega arith in
      let next : a + 1 + i + 1 ≡ a + 1 + (i + 1) = omega arith in
      let rest : i + 1 + position_or_len (λ y. eqb y x) (take m (drop (a + 1 + (i + 1)) l)) ≡ seek l a x m (i + 1) = part_place x m (i + 1) (omega arith) in
      rw (drop_more l (a + 1 + i) 0 here, next) (elim (same? (get_or l (a + 1 + i) 0) x) [
        | inl e ↦ rw (eq-eqb _ _ e, eq-eqb x (get_or l (a + 1 + i) 0) (sym e)) (add-zero i)
        | inr d ↦ rw (ne_eqb _ _ d, ne_eqb x (get_or l (a + 1 + i) 0) (λ e. d (sym e))) (omega (arith, rest))
      ])

  pub row_part_place : (x n : ℕ) (p : Option ℕ) → a + n < length l
      → (let xs = take (a + 1 + n - (a + 1)) (drop (a + 1) l) in
      let k = position_or_len (λ y. eqb y x) xs in p ≡ cond (ltb k (length xs)) (Some k) None)
      → p ≡ cond (ltb (seek l a x n 0) n) (Some (seek l a x n 0)) None
  row_part_place x n p h found =
      let xs : List ℕ = take (a + 1 + n - (a + 1)) (drop (a + 1) l) in
      let e : a + 1 + n - (a + 1) ≡ n = omega arith in
      let place : position_or_len (λ y. eqb y x) xs ≡ seek l a x n 0 = rw e (simp (add-zero, zero-add) at (part_place x n 0 (omega arith))) in
      let long : length xs ≡ n = omega (arith, length-take {A = ℕ}, length-drop {A = ℕ}) in
      found ∙ ap (λ (k : ℕ). cond (ltb k (length xs)) (Some k) None) place
      ∙ ap (λ (m : ℕ). cond (ltb (seek l a x n 0) m) (Some (seek l a x n 0)) None) long

  -- of the entries i are zeros already
  part_wiped : (m i : ℕ) → a + i + m < length l → wipe a m i (paste l (a + 1) (replicate i 0) i) ≡ set (paste l (a + 1) (replicate (i + m) 0) (i + m)) a 0
  unfolding wipe
  part_wiped zero i h = rw (add-zero i)
  part_wiped (suc m) i h =
      let end : i + 1 + m ≡ i + suc m = omega arith in
      rw (fill_from_more l (a + 1) i 0 (omega arith), ← end) (part_wiped m (i + 1) (omega arith))

  wiped_all : (n : ℕ) → a + n < length l → wipe a n 0 l ≡ set (paste l (a + 1) (replicate n 0) n) a 0
  wiped_all n h =
      let none : l ≡ paste l (a + 1) (replicate 0 0) 0 = paste_none l (a + 1) (replicate 0 0) in
      let e : 0 + n ≡ n = omega arith in
      ap (wipe a n 0) none ∙ part_wiped n 0 (omega arith) ∙ ap (λ (k : ℕ). set (paste l (a + 1) (replicate k 0) k) a 0) e

  pub row_part_wiped : (n : ℕ) (zs : List ℕ) → a + n < length l → zs ≡ replicate (length (take (a + 1 + n - a) (drop a l))) 0
      → put_mid a (a + 1 + n - a) l zs ≡ wipe a n 0 l
  row_part_wiped n zs h z =
      let all : a + 1 + n - a ≡ suc n = omega arith in
      let past : a + 1 + n ≡ a + suc n = omega arith in
      let zeros : take n (replicate {A = ℕ} n 0) ≡ replicate n 0 = take_all n (replicate n 0) (omega (arith, length-replicate {A = ℕ})) in
      let low : length (take a l) ≡ a = omega (arith, length-take {A = ℕ} a l) in
      let many : length (take (suc n) (drop a l)) ≡ suc n = omega (arith, length-take {A = ℕ}, length-drop {A = ℕ}) in
      rw (wiped_all n h, z, all, many, drop-drop, ← past, zeros, take_more l a 0 (omega arith), append_assoc, append_assoc)
      (sym (set_at (take a l) (get_or l a 0) _ 0 a low))

-- a place below n, mapped to itself
pub placed : (Q : ℕ → ℕ → Type 0) (p r : Option ℕ) (k n : ℕ) → p ≡ cond (ltb k n) (Some k) None → MatchOption p (r ≡ None) (λ x. IsSomeAnd r (Q x))
    → ((y : ℕ) → k < n → Q k y → y ≡ k) → r ≡ cond (ltb k n) (Some k) None
placed Q p r k n e h same = by (ltb k n) refl r (subst (λ (o : Option ℕ). MatchOption o (r ≡ None) (λ x. IsSomeAnd r (Q x))) e h)
  where
    by : (b : Bool) → ltb k n ≡ b → (r : Option ℕ) → MatchOption (cond b (Some k) None) (r ≡ None) (λ x. IsSomeAnd r (Q x)) → r ≡ cond b (Some k) None
    by false t r h = h
    by true t None h = absurd h
    by true t (Some y) h = ap Some (same y (ltb-true k n t) h)
