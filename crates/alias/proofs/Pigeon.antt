-- The pigeonhole principle: n numbers below m, no two alike, are at most m, since the last can give its place to the highest, and one fewer then lie
-- below one less.
-- Assumes nothing.
use Prim.Native.Nat.{ℕ, zero, suc, ◌≤◌, ◌<◌}
use mathlib.Core.Path.{◌≡◌}
use native.Mathlib.Decide.{ℕ_discrete}
use native.Mathlib.Omega.{arith}

-- a where x is the top, else x
moved : (a x : ℕ) {m : ℕ} → Dec (x ≡ m) → ℕ
moved a x (yes p) = a
moved a x (no q) = x

moved_low : (a x m : ℕ) (d : Dec (x ≡ m)) → a < suc m → x < suc m → (x ≡ a → ⊥) → moved a x d < m
unfolding moved
moved_low a x m (yes p) h g q = omega arith
moved_low a x m (no r) h g q = omega arith

moved_apart : (a x y m : ℕ) (d : Dec (x ≡ m)) (e : Dec (y ≡ m)) → (x ≡ a → ⊥) → (y ≡ a → ⊥) → (x ≡ y → ⊥) → moved a x d ≡ moved a y e → ⊥
unfolding moved
moved_apart a x y m (yes p) (yes q) f g h r = omega arith
moved_apart a x y m (yes p) (no q) f g h r = omega arith
moved_apart a x y m (no p) (yes q) f g h r = omega arith
moved_apart a x y m (no p) (no q) f g h r = omega arith

pub pigeon : (n m : ℕ) (f : ℕ → ℕ) → ((i : ℕ) → i < n → f i < m) → ((i j : ℕ) → i < j → j < n → f i ≡ f j → ⊥) → n ≤ m
pigeon zero m f low apart = omega arith
pigeon (suc n) zero f low apart = omega (arith, low 0 (omega arith))
pigeon (suc n) (suc m) f low apart =
    let top : (i : ℕ) → Dec (f i ≡ m) = λ i. ℕ_discrete (f i) m in
    let less = pigeon n m (λ i. moved (f n) (f i) (top i))
    (λ i h. moved_low (f n) (f i) m (top i) (low n (omega arith)) (low i (omega arith)) (apart i n h (omega arith)))
    (λ i j h g.
    moved_apart (f n) (f i) (f j) m (top i) (top j) (apart i n (omega arith) (omega arith)) (apart j n g (omega arith)) (apart i j h (omega arith))) in
    omega arith
