-- Sums over the numbers below n keep orders and differences, and a list without duplicates is no longer than what its entries stand for: by induction
-- on n and on the list. Assumes nothing.
use Prim.Native.Nat.{ℕ, zero, suc, ◌+◌, ◌*◌, ◌<◌, ◌≤◌}
use mathlib.Core.Path.{◌≡◌, refl, sym, ap, ◌∙◌, subst}
use mathlib.Core.Logic.{◌≢◌, ◌⊎◌, inl, inr}
use mathlib.Core.Bool.{Bool, true, false}
use mathlib.Core.Option.{Option, none, some}
use mathlib.Core.List.{List, [], ◌∷◌}
use lib.ListN.{length}
use native.Mathlib.Omega.{arith}
use native.Mathlib.Nat.{not-suc-le-zero}
use Rattle.definition.specs.Base.{has}
use Rattle.definition.specs.Session.{bit}
use Rattle.meaning.specs.Path.{In}
use Rattle.meaning.specs.Stored.{Nodup}
use Rattle.meaning.proofs.Maps.{same?, eqb_same, eqb_diff}
use Rattle.meaning.proofs.Lists.{has_in, in_has, not_has}

-- f 0 + .. + f (n - 1). Shut, so that a sum up to a limit is not written out.
pub sum : (ℕ → ℕ) → ℕ → ℕ
sum f zero = zero
sum f (suc n) = f n + sum f n

pub sum_suc : (f : ℕ → ℕ) (n : ℕ) → sum f (suc n) ≡ f n + sum f n
unfolding sum
sum_suc f n = refl

pub sum_le : (f g : ℕ → ℕ) (n : ℕ) → ((i : ℕ) → i < n → f i ≤ g i) → sum f n ≤ sum g n
unfolding sum
sum_le f g zero h = omega arith
sum_le f g (suc n) h = omega (arith, h n (omega arith), sum_le f g n (λ i l. h i (omega arith)))

-- each term at most k
pub sum_most : (k : ℕ) (f : ℕ → ℕ) (n : ℕ) → ((i : ℕ) → i < n → f i ≤ k) → sum f n ≤ k * n
unfolding sum
sum_most k f zero h = omega arith
sum_most k f (suc n) h = omega (arith, h n (omega arith), sum_most k f n (λ i l. h i (omega arith)))

-- k more at the place x
pub sum_more : (k : ℕ) (f g : ℕ → ℕ) (x n : ℕ) → ((i : ℕ) → f i ≤ g i) → k + f x ≤ g x → x < n → k + sum f n ≤ sum g n
unfolding sum
sum_more k f g x zero h q l = absurd (not-suc-le-zero l)
sum_more k f g x (suc n) h q l = by (same? x n) (sum_more k f g x n h q)
  where
    by : (x ≡ n) ⊎ (x ≢ n) → (x < n → k + sum f n ≤ sum g n) → k + (f n + sum f n) ≤ g n + sum g n
    by (inl e) below = omega (arith, subst (λ (i : ℕ). k + f i ≤ g i) e q, sum_le f g n (λ i _. h i))
    by (inr d) below = omega (arith, h n, below (omega arith))

-- no more but at the place x
pub sum_but : (f g : ℕ → ℕ) (x n : ℕ) → ((i : ℕ) → i ≢ x → f i ≤ g i) → sum f n ≤ sum g n + f x
unfolding sum
sum_but f g x zero h = omega arith
sum_but f g x (suc n) h = by (same? n x) (sum_but f g x n h)
  where
    by : (n ≡ x) ⊎ (n ≢ x) → sum f n ≤ sum g n + f x → f n + sum f n ≤ g n + sum g n + f x
    by (inl e) below = omega (arith, sum_le f g n (λ i l. h i (omega arith)), ap f e)
    by (inr d) below = omega (arith, h n d, below)

-- other at the place x alone
pub sum_change : (f g : ℕ → ℕ) (x n : ℕ) → ((i : ℕ) → i ≢ x → f i ≡ g i) → x < n → sum f n + g x ≡ sum g n + f x
unfolding sum
sum_change f g x zero h l = absurd (not-suc-le-zero l)
sum_change f g x (suc n) h l = by (same? n x) (sum_change f g x n h)
  where
    by : (n ≡ x) ⊎ (n ≢ x) → (x < n → sum f n + g x ≡ sum g n + f x) → f n + sum f n + g x ≡ g n + sum g n + f x
    by (inl e) below =
        let up = sum_le f g n (λ i j. omega (arith, h i (omega arith))) in
        let down = sum_le g f n (λ i j. omega (arith, h i (omega arith))) in
        omega (arith, up, down, ap f e, ap g e)
    by (inr d) below = omega (arith, h n d, below (omega arith))

sum_add : (f g : ℕ → ℕ) (n : ℕ) → sum (λ i. f i + g i) n ≡ sum f n + sum g n
unfolding sum
sum_add f g zero = refl
sum_add f g (suc n) = omega (arith, sum_add f g n)

pub sum_sucs : (f : ℕ → ℕ) (n : ℕ) → sum (λ i. suc (f i)) n ≡ n + sum f n
unfolding sum
sum_sucs f zero = refl
sum_sucs f (suc n) = omega (arith, sum_sucs f n)

-- over rows or over columns
pub sum_swap : (h : ℕ → ℕ → ℕ) (m n : ℕ) → sum (λ b. sum (h b) m) n ≡ sum (λ p. sum (λ b. h b p) n) m
unfolding sum
sum_swap h m zero = omega (arith, sum_most 0 (λ p. 0) m (λ _ _. omega arith))
sum_swap h m (suc n) = ap (λ (k : ℕ). sum (h n) m + k) (sum_swap h m n) ∙ sym (sum_add (h n) (λ p. sum (λ b. h b p) n) m)

pub bit_mono : (a b : Bool) → (a ≡ true → b ≡ true) → bit a ≤ bit b
bit_mono true b h = subst (λ (c : Bool). 1 ≤ bit c) (sym (h refl)) (omega arith)
bit_mono false b h = omega arith

pub bit_most : (a : Bool) → bit a ≤ 1
bit_most true = omega arith
bit_most false = omega arith

-- the numbers in a list are no more than its length
pub count_le : (l : List ℕ) (n : ℕ) → sum (λ b. bit (has b l)) n ≤ length l
count_le [] n = omega (arith, sum_most 0 (λ b. 0) n (λ _ _. omega arith))
count_le (x ∷ l) n =
    let but = sum_but (λ b. bit (has b (x ∷ l))) (λ b. bit (has b l)) x n (λ b d. rw (eqb_diff b x d) (omega arith)) in
    omega (arith, but, bit_most (has x (x ∷ l)), count_le l n)

-- is what o names in the list?
abbrev pub named : List ℕ → Option ℕ → Bool
named l none = false
named l (some x) = has x l

-- A list without duplicates, whose entries stand at places below n of f, is no longer than the places at which they stand.
pub places : (f : ℕ → Option ℕ) (n : ℕ) (l : List ℕ) → Nodup l → ((x : ℕ) → In x l → (w : ℕ) × (w < n) × (f w ≡ some x))
    → length l ≤ sum (λ w. bit (named l (f w))) n
places f n [] d h = omega arith
places f n (x ∷ l) d h =
    let w = h x (inl refl) in
    let here : bit (named (x ∷ l) (f w.0)) ≡ 1 = rw (w.2, eqb_same x) in
    let old : bit (named l (f w.0)) ≡ 0 = rw (w.2, not_has x l d.0) in
    let more = sum_more 1 (λ i. bit (named l (f i))) (λ i. bit (named (x ∷ l) (f i))) w.0 n (λ i. mono (f i)) (omega (arith, here, old)) w.1 in
    omega (arith, more, places f n l d.1 (λ y i. h y (inr i)))
  where
    mono : (o : Option ℕ) → bit (named l o) ≤ bit (named (x ∷ l) o)
    mono none = omega arith
    mono (some y) = bit_mono (has y l) (has y (x ∷ l)) (λ e. has_in y (x ∷ l) (inr (in_has y l e)))

-- so it is no longer than n
pub pigeon : (f : ℕ → Option ℕ) (n : ℕ) (l : List ℕ) → Nodup l → ((x : ℕ) → In x l → (w : ℕ) × (w < n) × (f w ≡ some x))
    → length l ≤ n
pigeon f n l d h = omega (arith, places f n l d h, sum_most 1 (λ w. bit (named l (f w))) n (λ w _. bit_most (named l (f w))))
