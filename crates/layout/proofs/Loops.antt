-- The loops over a row, one turn at a time: where n entries are and i are behind, n - i are left, so each law is one unfolding.
-- Assumes nothing.
use Prim.Native.Nat.{ℕ, suc, ◌+◌, ◌-◌, ◌≤◌, ◌<◌}
use mathlib.Core.Path.{◌≡◌}
use mathlib.Core.List.{List}
use native.Mathlib.Omega.{arith}
use borrow.Author.Tests.{eq-eqb, ne_eqb}
use lib.ListN.{get_or, set}
use Rattle.layout.specs.Rows.{seek, sift}

module _ (l : List ℕ) (a n i : ℕ) where
  step : i < n → n - i ≡ suc (n - (i + 1))
  step h = omega arith

  none_left : n ≤ i → n - i ≡ 0
  none_left h = omega arith

  module _ (x : ℕ) where
    pub seek_found : i < n → x ≡ get_or l (a + 1 + i) 0 → i ≡ seek l a x (n - i) i
    unfolding seek
    seek_found h e = rw (step h, eq-eqb x (get_or l (a + 1 + i) 0) e)

    pub seek_next : i < n → (x ≡ get_or l (a + 1 + i) 0 → ⊥) → seek l a x (n - (i + 1)) (i + 1) ≡ seek l a x (n - i) i
    unfolding seek
    seek_next h d = rw (step h, ne_eqb x (get_or l (a + 1 + i) 0) d)

    pub seek_end : n ≤ i → i ≡ seek l a x (n - i) i
    unfolding seek
    seek_end h = rw (none_left h)

    pub sift_skip : (k : ℕ) → i < n → get_or l (a + 1 + i) 0 ≡ x → sift a x (n - (i + 1)) (i + 1) k (set l (a + 1 + i) 0) ≡ sift a x (n - i) i k l
    unfolding sift
    sift_skip k h e = rw (step h, eq-eqb (get_or l (a + 1 + i) 0) x e)

    pub sift_keep : (k : ℕ) → i < n → (get_or l (a + 1 + i) 0 ≡ x → ⊥)
        → sift a x (n - (i + 1)) (i + 1) (k + 1) (set (set l (a + 1 + i) 0) (a + 1 + k) (get_or l (a + 1 + i) 0)) ≡ sift a x (n - i) i k l
    unfolding sift
    sift_keep k h d = rw (step h, ne_eqb (get_or l (a + 1 + i) 0) x d)

    pub sift_end : (k : ℕ) → n ≤ i → set l a k ≡ sift a x (n - i) i k l
    unfolding sift
    sift_end k h = rw (none_left h)
