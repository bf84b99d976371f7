-- `any` over places counted from 0: it answers what the definition's `any` says of a list, if the test at a place is that of the entry there.
-- Assumes nothing.
use Prim.Native.Nat.{ℕ, zero, suc, ◌+◌, ◌<◌}
use mathlib.Core.Path.{◌≡◌, refl, sym, ap, ◌∙◌, subst}
use mathlib.Core.Bool.{Bool, true, false, ◌||◌}
use mathlib.Core.List.{List, [], ◌∷◌}
use native.Mathlib.Omega.{arith}
use lib.ListN.{length, get_or}
use Rattle.std.proofs.lemmas.List.FromFn.{length-range_with_len, get_or-range_with_len}
use Rattle.std.proofs.lemmas.Iterator.{cases_from_any, YieldsList-from_range}
use Rattle.std.proofs.iter.Yields.{nat_range_steps}
use Rattle.std.specs.Bool.{MatchBool}
use Rattle.std.specs.Fn.{Called, Mut}
use Rattle.std.specs.Iterator.{ChecksAny}
use Rattle.std.specs.List.{AllWithin, HoldsAt, range_with_len}
use Rattle.definition.specs.Base.{any, up_from}

-- the test of place i is z, if the place is one of n
abbrev pub Tells : (ℕ → Bool) → ℕ → Bool → ℕ → Type 0
Tells t n z i = i < n → t i ≡ z

module _ (f : ℕ → Bool) where
  some_at : (xs : List ℕ) (k : ℕ) → k < length xs → f (get_or xs k 0) ≡ true → any f xs ≡ true
  some_at [] k lt e = absurd (omega arith)
  some_at (x ∷ xs) zero lt e = ap (λ (z : Bool). z || any f xs) e
  some_at (x ∷ xs) (suc k) lt e = by (f x) (some_at xs k (omega arith) e)
    where
      by : (z : Bool) → any f xs ≡ true → z || any f xs ≡ true
      by true rest = refl
      by false rest = rest

  none_at : (xs : List ℕ) → ((k : ℕ) → k < length xs → f (get_or xs k 0) ≡ false) → any f xs ≡ false
  none_at [] h = refl
  none_at (x ∷ xs) h = ap (λ (z : Bool). z || any f xs) (h 0 (omega arith)) ∙ none_at xs (λ k lt. h (suc k) (omega arith))

module _ (t f : ℕ → Bool) (xs : List ℕ) (n : ℕ) (long : n ≡ length xs) (same : (i : ℕ) → i < n → t i ≡ f (get_or xs i 0)) where
  any_at : (r : Bool) → MatchBool r ((k : ℕ) × (k < length (range_with_len 0 n)) × HoldsAt (Tells t n true) (range_with_len 0 n) k)
      (AllWithin (Tells t n false) (range_with_len 0 n) 0 (length (range_with_len 0 n))) → r ≡ any f xs
  any_at true h =
      let lt : h.0 < n = omega (arith, h.1, length-range_with_len 0 n) in
      let at : get_or (range_with_len 0 n) h.0 0 ≡ h.0 = omega (arith, get_or-range_with_len 0 n h.0 0 lt) in
      sym (some_at f xs h.0 (omega arith) (sym (same h.0 lt) ∙ subst (Tells t n true) at (h.2 0) lt))
  any_at false h = sym (none_at f xs (λ k lt. sym (same k (omega arith)) ∙ none k (omega arith)))
    where
      none : (k : ℕ) → k < n → t k ≡ false
      none k lt =
          let at : get_or (range_with_len 0 n) k 0 ≡ k = omega (arith, get_or-range_with_len 0 n k 0 lt) in
          subst (Tells t n false) at (h k 0 (omega arith) (omega (arith, length-range_with_len 0 n))) lt

  -- what the closure tells of a place, where it leaves itself as it was
  pub any_of_places : {F : Type 0} {g : Mut F (ℕ × Unit {0}) Bool} {k : F} {s u : _} (r : Bool)
      → ChecksAny nat_range_steps g s k r u → s ≡ record { start = 0; end = n }
      → ((i : ℕ) (q : F) → Called g k (i, tt) true q → Tells t n true i)
      → ((i : ℕ) (q : F) → Called g k (i, tt) false q → (q ≡ k) × Tells t n false i) → r ≡ any f xs
  any_of_places {k = k} {u = u} r ran whole on off =
      any_at r (cases_from_any u k r (Tells t n true) (Tells t n false) ran (YieldsList-from_range 0 n n whole (omega arith)) on off)

up_from_at : (i n k : ℕ) → k < n → get_or (up_from i n) k 0 ≡ i + k
up_from_at i zero k lt = absurd (omega arith)
up_from_at i (suc n) zero lt = omega arith
up_from_at i (suc n) (suc k) lt = up_from_at (suc i) n k (omega arith) ∙ omega arith

up_from_long : (i n : ℕ) → n ≡ length (up_from i n)
up_from_long i zero = refl
up_from_long i (suc n) = ap suc (up_from_long (suc i) n)

pub up_at : (n k : ℕ) → k < n → get_or (up_from 0 n) k 0 ≡ k
up_at n k lt = up_from_at 0 n k lt ∙ omega arith

pub up_long : (n : ℕ) → n ≡ length (up_from 0 n)
up_long = up_from_long 0
