-- A variable causes at most one parameter and one zero per block, the zero in two steps at most: an entry records one value, an alias has one target, and a
-- first step stands directly before its zero. Assumes nothing.
use Prim.Native.Nat.{ℕ, suc, ◌+◌, ◌-◌, ◌*◌, ◌<◌}
use mathlib.Core.Path.{◌≡◌, refl, sym, ap, ◌∙◌}
use mathlib.Core.Logic.{◌⊎◌, inl, inr}
use mathlib.Core.Bool.{cond}
use mathlib.Core.Option.{Option, none, some}
use lib.Dec.{ltb}
use lib.ListN.{length}
use native.Mathlib.Omega.{arith}
use borrow.Author.Tests.{le-ltb}
use Rattle.definition.specs.Form.{Graph, Form, param, nought}
use Rattle.meaning.specs.Causes.{CausesParam, CausesZero, CausesStep, Once}
use Rattle.meaning.proofs.Causing.{Caused}
use Rattle.meaning.proofs.Maps.{some_inj, yes_ltb}
use Rattle.meaning.proofs.Sums.{pigeon}

module _ (s : Form) where
  -- what the alias target of an entry is
  abbrev target_of : Option ℕ → Option ℕ
  target_of none = none
  target_of (some x) = some (s.target x)

  -- and the value before it
  abbrev before_of : Option ℕ → Option ℕ
  before_of none = none
  before_of (some z) = some (z - 1)

  same_param : (v b x y : ℕ) → CausesParam s v b x → CausesParam s v b y → x ≡ y
  same_param v b x y p q = some_inj (sym p.entry ∙ q.entry)

  module _ (g : Graph) (h : Caused g s) where
    of_param : (x b : ℕ) → x < s.next → (s.info x).sort ≡ param → (s.info x).home ≡ b
        → (v : ℕ) × (v < length g.types) × CausesParam s v b x
    of_param x b l p q = let k = h.param_of x l p in (k.0, k.1, record { below = l; sort = p; home = q; entry = ap (s.entry k.0) (sym q) ∙ k.2 })

    -- z is a zero that some variable's parameter is an alias of, or the first step of one
    of_zero : (z b : ℕ) → z < s.next → (s.info z).sort ≡ nought → (s.info z).home ≡ b
        → (v : ℕ) × (v < length g.types) × (CausesZero s v b z ⊎ CausesStep s v b z)
    of_zero z b l p q =
        let k = h.zero_of z l p in
        let c = of_param k.par b k.below k.sort (k.home ∙ q) in (
          c.0,
          c.1,
          elim k.is [
            | inl e ↦ inl (record { below = l; sort = p; home = q; param = k.par; caused = c.2; target = e })
            | inr f ↦ inr (record {
              zero = s.target k.par;
              caused = record { below = f.below; sort = f.sort; home = f.home ∙ q; param = k.par; caused = c.2; target = refl };
              step = f;
            })
          ],
        )

    same_zero : (v b z u : ℕ) → CausesZero s v b z → CausesZero s v b u → z ≡ u
    same_zero v b z u p q = sym p.target ∙ ap s.target (same_param v b p.param q.param p.caused q.caused) ∙ q.target

    -- the zeros of the variables, then their first steps
    of_either : ℕ → ℕ → Option ℕ
    of_either b w = cond (ltb w (length g.types)) (target_of (s.entry w b)) (before_of (target_of (s.entry (w - length g.types) b)))

    among : (z b v : ℕ) → v < length g.types → CausesZero s v b z ⊎ CausesStep s v b z → (w : ℕ) × (w < 2 * length g.types) × (of_either b w ≡ some z)
    unfolding of_either
    among z b v l (inl c) = (v, omega arith, rw (yes_ltb v (length g.types) l, c.caused.entry, c.target) refl)
    among z b v l (inr c) =
        let n = length g.types in
        let back : n + v - n ≡ v = omega arith in
        let less : suc z - 1 ≡ z = omega arith in
        (n + v, omega arith, rw (le-ltb (n + v) n (omega arith), back, c.caused.caused.entry, c.caused.target, c.step.after, less) refl)

    pub once_of : Once g s
    once_of = record {
      param_caused = λ x l p. of_param x (s.info x).home l p refl;
      zero_caused = λ z l p. of_zero z (s.info z).home l p refl;
      one_param = same_param;
      one_zero = same_zero;
      one_step = λ v b z u p q. let e = same_zero v b p.zero q.zero p.caused q.caused in omega (arith, e, p.step.after, q.step.after);
      steps = λ z ty l p e.
          let k = h.step_before z ty l p e in
          let i = k.2 in
          (k.0, rw i refl, rw i refl, record { after = k.1; below = l; sort = p; home = rw i refl; type = rw i e });
      few_params = λ b l i. pigeon (λ v. s.entry v b) (length g.types) l i.once
          (λ x j. let k = i.each x j in let c = of_param x b k.0 k.1 k.2 in (c.0, c.1, c.2.entry));
      few_zeros = λ b l i. pigeon (of_either b) (2 * length g.types) l i.once
          (λ z j. let k = i.each z j in let c = of_zero z b k.0 k.1 k.2 in among z b c.0 c.1 c.2);
    }
