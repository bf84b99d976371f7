-- A test that comes out true exactly where a statement holds decides it; tests joined by not, and, implies and for-each decide the statements joined likewise.
-- Assumes nothing.
use Prim.Native.Nat.{ℕ, zero, suc, ◌<◌}
use mathlib.Core.Path.{◌≡◌, refl, sym, ap, ◌∙◌, subst}
use mathlib.Core.Logic.{◌≢◌, ◌⊎◌, inl, inr}
use mathlib.Core.Bool.{Bool, true, false, not, ◌&&◌, ◌||◌}
use mathlib.Core.List.{List, [], ◌∷◌}
use lib.Dec.{eqb}
use native.Mathlib.Omega.{arith}
use native.Mathlib.Nat.{not-suc-le-zero}
use Rattle.definition.specs.Base.{has, every}
use Rattle.meaning.specs.Path.{In}
use Rattle.meaning.specs.Suppositions.{below}
use Rattle.meaning.proofs.Maps.{same?}
use Rattle.meaning.proofs.Maps.{false_true, eqb_eq, eqb_same}
use Rattle.meaning.proofs.Lists.{has_in, in_has}

pub record Decides (b : Bool) (A : Type 0) : Type 0 where
  pub sound : b ≡ true → A
  pub complete : A → b ≡ true

pub turned : {A B : Type 0} {b : Bool} → (A → B) → (B → A) → Decides b A → Decides b B
turned to from d = record { sound = λ e. to (d.sound e); complete = λ y. d.complete (from y) }

pub itself : (b : Bool) → Decides b (b ≡ true)
itself b = record { sound = λ e. e; complete = λ e. e }

pub refuted : (b : Bool) → Decides (not b) (b ≡ false)
refuted true = record { sound = λ e. absurd (false_true refl e); complete = λ e. absurd (false_true e refl) }
refuted false = record { sound = λ e. refl; complete = λ e. refl }

pub listed : (x : ℕ) (l : List ℕ) → Decides (has x l) (In x l)
listed x l = record { sound = in_has x l; complete = has_in x l }

pub denied : {A : Type 0} {b : Bool} → Decides b A → Decides (not b) (A → ⊥)
denied {b = true} d = record { sound = λ e. absurd (false_true refl e); complete = λ n. absurd (n (d.sound refl)) }
denied {b = false} d = record { sound = λ e a. false_true refl (d.complete a); complete = λ n. refl }

pub both : {A B : Type 0} {a b : Bool} → Decides a A → Decides b B → Decides (a && b) (A × B)
both {a = true} p q = record { sound = λ e. (p.sound refl, q.sound e); complete = λ h. q.complete h.1 }
both {a = false} p q = record { sound = λ e. absurd (false_true refl e); complete = λ h. absurd (false_true refl (p.complete h.0)) }

pub either : {A B : Type 0} {a b : Bool} → Decides a A → Decides b B → Decides (a || b) (A ⊎ B)
either {a = true} p q = record { sound = λ e. inl (p.sound refl); complete = λ h. refl }
either {A} {B} {a = false} {b} p q = record { sound = λ e. inr (q.sound e); complete = on }
  where
    on : A ⊎ B → b ≡ true
    on (inl x) = absurd (false_true refl (p.complete x))
    on (inr y) = q.complete y

pub equal : (m n : ℕ) → Decides (eqb m n) (m ≡ n)
equal m n = record { sound = eqb_eq m n; complete = λ e. ap (λ (k : ℕ). eqb k n) e ∙ eqb_same n }

pub implied : {B : Type 0} (a : Bool) {b : Bool} → Decides b B → Decides (not a || b) (a ≡ true → B)
implied true q = record { sound = λ e _. q.sound e; complete = λ h. q.complete (h refl) }
implied false q = record { sound = λ e h. absurd (false_true refl h); complete = λ h. refl }

pub each : {P : ℕ → Type 0} {f : ℕ → Bool} → ((x : ℕ) → Decides (f x) (P x)) → (l : List ℕ) → Decides (every f l) ((x : ℕ) → In x l → P x)
each d [] = record { sound = λ e x i. absurd i; complete = λ h. refl }
each {P} d (y ∷ l) = turned to (λ h. (h y (inl refl), λ x i. h x (inr i))) (both (d y) (each d l))
  where
    to : P y × ((x : ℕ) → In x l → P x) → (x : ℕ) → In x (y ∷ l) → P x
    to h x (inl e) = subst P (sym e) h.0
    to h x (inr i) = h.1 x i

pub each_below : {P : ℕ → Type 0} {f : ℕ → Bool} → ((x : ℕ) → Decides (f x) (P x)) → (n : ℕ) → Decides (below n f) ((x : ℕ) → x < n → P x)
each_below d zero = record { sound = λ e x i. absurd (not-suc-le-zero i); complete = λ h. refl }
each_below {P} d (suc n) = turned to (λ h. (h n (omega arith), λ x i. h x (omega arith))) (both (d n) (each_below d n))
  where
    to : P n × ((x : ℕ) → x < n → P x) → (x : ℕ) → x < suc n → P x
    to h x i = by (same? x n)
      where
        by : (x ≡ n) ⊎ (x ≢ n) → P x
        by (inl e) = subst P (sym e) h.0
        by (inr n) = h.1 x (omega arith)
