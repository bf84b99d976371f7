-- A branch is declared somewhere just where a block that it names has it: a branch is declared only to blocks that it names, and these are there.
-- Assumes nothing.
use Prim.Native.Nat.{ℕ}
use mathlib.Core.Path.{◌≡◌, refl, sym, ◌∙◌}
use mathlib.Core.Logic.{inl, inr}
use mathlib.Core.Bool.{Bool, true, false}
use mathlib.Core.List.{List, [], ◌∷◌}
use native.Mathlib.Omega.{arith}
use Rattle.definition.specs.Base.{has, any, up_from}
use Rattle.definition.specs.Form.{Graph}
use Rattle.definition.specs.Session.{declared_anywhere}
use Rattle.meaning.specs.Path.{In}
use Rattle.meaning.proofs.Whole.{some_no, up_in}
use Rattle.meaning.proofs.Lists.{in_has}
use Rattle.graph.specs.Seen.{Seen}

none_among : (f : ℕ → Bool) (l : List ℕ) → ((x : ℕ) → In x l → f x ≡ false) → any f l ≡ false
none_among f [] h = refl
none_among f (x ∷ l) h = rw (h x (inl refl)) (none_among f l (λ y i. h y (inr i)))

-- lists that have the same entries that pass the test
module _ (f : ℕ → Bool) where
  none_within : (l r : List ℕ) → ((x : ℕ) → In x l → f x ≡ true → In x r) → any f r ≡ false → any f l ≡ false
  none_within l r h e = none_among f l (λ x i. by x i (f x) refl)
    where
      by : (x : ℕ) → In x l → (z : Bool) → f x ≡ z → f x ≡ false
      by x i true t = some_no f r e x (h x i t)
      by x i false t = t

  same_among : (l r : List ℕ) → ((x : ℕ) → In x l → f x ≡ true → In x r) → ((x : ℕ) → In x r → f x ≡ true → In x l) → any f l ≡ any f r
  same_among l r to back = by (any f l) (any f r) refl refl
    where
      by : (y z : Bool) → any f l ≡ y → any f r ≡ z → y ≡ z
      by true true p q = refl
      by true false p q = sym p ∙ none_within l r to q
      by false true p q = sym (none_within r l back p) ∙ q
      by false false p q = refl

module _ {cells : List ℕ} (g : Graph) (s : Seen cells g) (p : ℕ) where
  pub all_named : any (λ b. has p (g.preds b)) (g.dests p) ≡ declared_anywhere g p
  all_named = same_among (λ b. has p (g.preds b)) (g.dests p) (up_from 0 g.blocks)
      (λ b i t. up_in g.blocks 0 b (omega arith) (omega (arith, s.bounds.aims p b i)))
      (λ b i t. s.sound.names b p (in_has p (g.preds b) t))
