-- Every parameter and every zero ever made has a cause, also once it became an alias, and each change of a form keeps that: entries are never replaced, and an
-- alias keeps its target. A zero's first step has that zero's cause, and stands before it. Assumes nothing.
use Prim.Native.Nat.{ℕ, suc, ◌<◌, ◌≤◌}
use mathlib.Core.Path.{◌≡◌, refl, sym, ap, ◌∙◌}
use mathlib.Core.Logic.{◌⊎◌, inl, inr}
use mathlib.Core.Option.{Option, some}
use lib.Dec.{ltb}
use lib.ListN.{length}
use native.Mathlib.Omega.{arith}
use native.Mathlib.Nat.{le_trans}
use Rattle.entity.specs.Types.{step_of}
use Rattle.entity.proofs.Laws.{step_plain}
use Rattle.definition.specs.Base.{put}
use Rattle.definition.specs.Form.{Graph, Info, Form, param, nought}
use Rattle.meaning.specs.Causes.{FirstStep}
use Rattle.meaning.proofs.Inv.{nought_param}
use Rattle.meaning.proofs.Maps.{put_other, put_same, same?, put_at, bool?, ltb_yes, ltb_no, some_none}
use Rattle.meaning.proofs.Emit.{zero_info, Stepped}

-- a zero is what a parameter of its block is an alias of, or the first step of that
pub record ZeroOf (next : ℕ) (info : ℕ → Info) (target : ℕ → ℕ) (z : ℕ) : Type 0 where
  pub par : ℕ
  pub below : par < next
  pub sort : (info par).sort ≡ param
  pub home : (info par).home ≡ (info z).home
  pub is : (target par ≡ z) ⊎ FirstStep next info z (target par)

-- before z stands a zero of type t in its block
abbrev pub Before : (ℕ → Info) → ℕ → ℕ → Type 0
Before info t z = (y : ℕ) × (z ≡ suc y) × (info y ≡ zero_info t (info z).home)

-- of n variables
pub record Causing (n next : ℕ) (info : ℕ → Info) (entry : ℕ → ℕ → Option ℕ) (target : ℕ → ℕ) : Type 0 where
  -- a parameter is what the entry of a variable records in its block
  pub param_of : (x : ℕ) → x < next → (info x).sort ≡ param → (v : ℕ) × (v < n) × (entry v (info x).home ≡ some x)
  pub zero_of : (z : ℕ) → z < next → (info z).sort ≡ nought → ZeroOf next info target z
  -- where its type takes two steps, the first stands before it
  pub step_before : (z t : ℕ) → z < next → (info z).sort ≡ nought → step_of (info z).type ≡ some t → Before info t z

abbrev pub Caused : Graph → Form → Type 0
Caused g s = Causing (length g.types) s.next s.info s.entry s.target

-- more values, where the old ones stay what they are, and aliases of zeros stay
module _ {next next' : ℕ} {info info' : ℕ → Info} {target target' : ℕ → ℕ} (more : next ≤ next')
    (old : (y : ℕ) → y < next → info' y ≡ info y)
    (stay : (y : ℕ) → y < next → (info y).sort ≡ param → (info (target y)).sort ≡ nought → target' y ≡ target y) where
  kept_step : (y z : ℕ) → FirstStep next info y z → FirstStep next' info' y z
  kept_step y z f =
      let i = old y (omega (arith, f.below, f.after)) in
      let j = old z f.below in
      record { after = f.after; below = le_trans f.below more; sort = rw j f.sort; home = rw (i, j) f.home; type = ap (λ (k : Info). step_of k.type) j ∙ f.type ∙ ap (λ (k : Info). some k.type) (sym i) }

  kept_zero : (z : ℕ) → z < next → (info z).sort ≡ nought → ZeroOf next info target z → ZeroOf next' info' target' z
  kept_zero z l q k =
      let i = old k.par k.below in
      let j = old z l in
      record {
        par = k.par;
        below = le_trans k.below more;
        sort = rw i k.sort;
        home = rw (i, j) k.home;
        is = elim k.is [
          | inl e ↦ inl (stay k.par k.below k.sort (rw e q) ∙ e)
          | inr f ↦ inr (rw (stay k.par k.below k.sort f.sort) (kept_step z (target k.par) f))
        ];
      }

before_kept : {next : ℕ} {info info' : ℕ → Info} → ((y : ℕ) → y < next → info' y ≡ info y) → (z t : ℕ) → z < next → Before info t z → Before info' t z
before_kept old z t l k = (k.0, k.1, rw (old z l) (old k.0 (omega (arith, k.1)) ∙ k.2))

module _ {n next : ℕ} {info : ℕ → Info} {entry : ℕ → ℕ → Option ℕ} {target : ℕ → ℕ} (h : Causing n next info entry target) where
  -- more variables
  pub wider_caused : (m : ℕ) → n ≤ m → Causing m next info entry target
  wider_caused m l = record {
    param_of = λ x k q. let c = h.param_of x k q in (c.0, le_trans c.1 l, c.2);
    zero_of = h.zero_of;
    step_before = h.step_before;
  }

  -- more entries
  pub entered_caused : (entry' : ℕ → ℕ → Option ℕ) → ((v b e : ℕ) → entry v b ≡ some e → entry' v b ≡ some e)
      → Causing n next info entry' target
  entered_caused entry' up = record {
    param_of = λ x l q. let k = h.param_of x l q in (k.0, k.1, up k.0 (info x).home x k.2);
    zero_of = h.zero_of;
    step_before = h.step_before;
  }

  -- an alias of a zero is none of x, which is no alias
  not_root : (x m : ℕ) → target x ≡ x → (y : ℕ) → y < next → (info y).sort ≡ param → (info (target y)).sort ≡ nought → put x m target y ≡ target y
  not_root x m root y l p q = put_other x m target y (λ e. nought_param q (ap (λ (j : ℕ). (info j).sort) (ap target e ∙ root ∙ sym e) ∙ p))

  -- more aliases: a parameter whose target is a zero was one
  pub aliased_caused : (x y : ℕ) → target x ≡ x → Causing n next info entry (put x y target)
  aliased_caused x y root = record {
    param_of = h.param_of;
    zero_of = λ z l q. kept_zero (omega arith) (λ _ _. refl) (not_root x y root) z l q (h.zero_of z l q);
    step_before = h.step_before;
  }

  -- one more value that is no zero, a parameter with a cause of its own
  pub new_caused : (new : Info) → (new.sort ≡ param → (v : ℕ) × (v < n) × (entry v new.home ≡ some next)) → (new.sort ≡ nought → ⊥)
      → Causing n (suc next) (put next new info) entry target
  new_caused new if_param no_zero = record {
    param_of = λ x l q. elim (same? x next) [
      | inl e ↦ let i = put_at next new info x e in rw (i, e) (if_param (rw i at q))
      | inr d ↦ let i = put_other next new info x d in rw i (h.param_of x (omega arith) (rw i at q))
    ];
    zero_of = λ z l q. elim (same? z next) [
      | inl e ↦ absurd (no_zero (rw (put_at next new info z e) at q))
      | inr d ↦ let u = rw (put_other next new info z d) at q in kept_zero (omega arith) old (λ _ _ _ _. refl) z (omega arith) u (h.zero_of z (omega arith) u)
    ];
    step_before = λ z t l q e. elim (same? z next) [
      | inl k ↦ absurd (no_zero (rw (put_at next new info z k) at q))
      | inr d ↦ let i = put_other next new info z d in
          before_kept old z t (omega arith) (h.step_before z t (omega arith) (rw i at q) (rw i at e))
    ];
  }
    where
      old : (y : ℕ) → y < next → put next new info y ≡ info y
      old y l = put_other next new info y (omega arith)

  -- a zero m of type ty in b, in one step or two, for its parameter x
  module _ (x b ty m : ℕ) (info' : ℕ → Info) (st : Stepped (step_of ty) b next m info info') (below : x < next) (root : target x ≡ x)
      (sort : (info x).sort ≡ param) (home : (info x).home ≡ b) where
    abbrev after : ℕ → Info
    after = put m (zero_info ty b) info'

    unchanged : (y : ℕ) → y < next → put m (zero_info ty b) info' y ≡ info y
    unchanged y l = put_other m (zero_info ty b) info' y (omega (arith, st.more)) ∙ st.old y l

    -- a value is the zero, or an old one, or the first step
    Place : ℕ → Type 0
    Place z = (z ≡ m) ⊎ ((z < next) ⊎ ((t : ℕ) × (step_of ty ≡ some t) × (m ≡ suc z) × (put m (zero_info ty b) info' z ≡ zero_info t b)))

    place : (z : ℕ) → z < suc m → Place z
    unfolding Place
    place z l = elim (same? z m) [
      | inl e ↦ inl e
      | inr d ↦ inr (elim (bool? (ltb z next)) [
        | inl e ↦ inl (ltb_yes z next e)
        | inr e ↦ let k = st.new z (ltb_no z next e) (omega arith) in inr (k.0, k.1, k.2, put_other m (zero_info ty b) info' z d ∙ k.3)
      ])
    ]

    x_now : ((after x).sort ≡ param) × ((after x).home ≡ b)
    x_now = (rw (unchanged x below) sort, rw (unchanged x below) home)

    for_x : (z : ℕ) → (after z).home ≡ b → (m ≡ z) ⊎ FirstStep (suc m) after z m → ZeroOf (suc m) after (put x m target) z
    for_x z q is = record {
      par = x;
      below = omega (arith, st.more);
      sort = x_now.0;
      home = x_now.1 ∙ sym q;
      is = rw (put_same x m target) is;
    }

    pub emitted_caused : Causing n (suc m) (put m (zero_info ty b) info') entry (put x m target)
    unfolding Place
    emitted_caused = record {
      param_of = λ y l q. elim (place y l) [
        | inl e ↦ absurd (nought_param (ap (λ (j : Info). j.sort) (put_at m (zero_info ty b) info' y e)) q)
        | inr (inl k) ↦ let i = unchanged y k in rw i (h.param_of y k (rw i at q))
        | inr (inr k) ↦ absurd (nought_param (ap (λ (j : Info). j.sort) k.3) q)
      ];
      zero_of = λ z l q. elim (place z l) [
        | inl e ↦ for_x z (ap (λ (j : Info). j.home) (put_at m (zero_info ty b) info' z e)) (inl (sym e))
        | inr (inl k) ↦ let u = rw (unchanged z k) at q in kept_zero (omega (arith, st.more)) unchanged (not_root x m root) z k u (h.zero_of z k u)
        | inr (inr k) ↦ for_x z (ap (λ (j : Info). j.home) k.3) (inr (first z k))
      ];
      step_before = λ z t l q e. elim (place z l) [
        | inl k ↦ let i = put_at m (zero_info ty b) info' z k in
            let y = st.there t (rw i at e) in
            (y.0, k ∙ y.1, rw i (put_other m (zero_info ty b) info' y.0 (omega (arith, y.1)) ∙ y.2))
        | inr (inl k) ↦ let i = unchanged z k in
            before_kept unchanged z t k (h.step_before z t k (rw i at q) (rw i at e))
        | inr (inr k) ↦ absurd (some_none (rw k.3 at e) (step_plain ty k.0 k.1).plain)
      ];
    }
      where
        m_is : after m ≡ zero_info ty b
        m_is = put_same m (zero_info ty b) info'

        first : (z : ℕ) → (t : ℕ) × (step_of ty ≡ some t) × (m ≡ suc z) × (after z ≡ zero_info t b) → FirstStep (suc m) after z m
        first z k = record { after = k.2; below = omega arith; sort = rw m_is refl; home = rw (m_is, k.3) refl; type = rw (m_is, k.3) k.1 }
