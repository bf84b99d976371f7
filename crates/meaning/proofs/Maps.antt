-- Tests, options and maps, by cases. Assumes nothing.
use Prim.Native.Nat.{ℕ, ◌<◌, ◌≤◌}
use mathlib.Core.Option.{some-injective, Option, some, none, none-ne-some}
use mathlib.Core.Path.{fun_ext, ◌≡◌, refl, sym, ap, ◌∙◌, subst}
use mathlib.Core.Logic.{◌≢◌, ◌⊎◌, inl, inr}
use mathlib.Core.Bool.{Bool, true, false, cond, not, ◌||◌, ◌&&◌}
use lib.Dec.{lt→ltb, ltb→lt, eqb, T, eqb→eq, eqb_refl, ltb, leb, nleb→lt, nltb→le}
use native.Mathlib.Omega.{arith}
use Rattle.definition.specs.Base.{put, put₂, or_else}

T_true : (b : Bool) → T b → b ≡ true
T_true true h = refl
T_true false h = absurd h

pub true_T : (b : Bool) → b ≡ true → T b
true_T b e = subst (λ (c : Bool). T c) (sym e) tt

pub false_true : {b : Bool} → b ≡ false → b ≡ true → ⊥
false_true p q = let z : ◌≡◌ {A = ℕ} 0 1 = cc in omega arith

pub bool? : (b : Bool) → (b ≡ true) ⊎ (b ≡ false)
bool? true = inl refl
bool? false = inr refl

pub eqb_same : (k : ℕ) → eqb k k ≡ true
eqb_same k = T_true (eqb k k) (eqb_refl k)

pub eqb_eq : (j k : ℕ) → eqb j k ≡ true → j ≡ k
eqb_eq j k e = eqb→eq j k (true_T (eqb j k) e)

pub eqb_diff : (j k : ℕ) → j ≢ k → eqb j k ≡ false
eqb_diff j k n = elim (bool? (eqb j k)) [ inl e ↦ absurd (n (eqb_eq j k e)) | inr e ↦ e ]

pub same? : (j k : ℕ) → (j ≡ k) ⊎ (j ≢ k)
same? j k = elim (bool? (eqb j k)) [ inl e ↦ inl (eqb_eq j k e) | inr e ↦ inr (λ q. false_true e (rw q (eqb_same k))) ]

pub and_both : (a b : Bool) → a && b ≡ true → (a ≡ true) × (b ≡ true)
and_both true b e = (refl, e)
and_both false b e = absurd (false_true refl e)

pub ltb_yes : (m n : ℕ) → ltb m n ≡ true → m < n
ltb_yes m n e = ltb→lt m n (true_T (ltb m n) e)

pub yes_ltb : (m n : ℕ) → m < n → ltb m n ≡ true
yes_ltb m n l = T_true (ltb m n) (lt→ltb m n l)

pub ltb_no : (m n : ℕ) → ltb m n ≡ false → n ≤ m
ltb_no m n e = nltb→le m n (subst (λ (b : Bool). T (not b)) (sym e) tt)

pub leb_no : (m n : ℕ) → leb m n ≡ false → n < m
leb_no m n e = nleb→lt m n (subst (λ (b : Bool). T (not b)) (sym e) tt)

pub or_no : (a b : Bool) → a || b ≡ false → (a ≡ false) × (b ≡ false)
or_no true b e = absurd (false_true e refl)
or_no false b e = (refl, e)

pub not_no : (a : Bool) → not a ≡ false → a ≡ true
not_no true e = refl
not_no false e = absurd (false_true e refl)

module _ {ℓ} {A : Type ℓ} where
  pub put_same : (k : ℕ) (a : A) (f : ℕ → A) → put k a f k ≡ a
  put_same k a f = rw (eqb_same k)

  pub put_other : (k : ℕ) (a : A) (f : ℕ → A) (j : ℕ) → j ≢ k → put k a f j ≡ f j
  put_other k a f j n = rw (eqb_diff j k n)

  pub put_at : (k : ℕ) (a : A) (f : ℕ → A) (j : ℕ) → j ≡ k → put k a f j ≡ a
  put_at k a f j q = ap (λ (i : ℕ). put k a f i) q ∙ put_same k a f

  pub put_id : (k : ℕ) (f : ℕ → A) → put k (f k) f ≡ f
  put_id k f = fun_ext (λ j. elim (same? j k) [ inl q ↦ put_at k (f k) f j q ∙ ap f (sym q) | inr n ↦ put_other k (f k) f j n ])

  pub put_put : (k : ℕ) (a b : A) (f : ℕ → A) → put k a (put k b f) ≡ put k a f
  put_put k a b f = fun_ext (λ j. elim (same? j k) [
    | inl q ↦ put_at k a (put k b f) j q ∙ sym (put_at k a f j q)
    | inr n ↦ put_other k a (put k b f) j n ∙ put_other k b f j n ∙ sym (put_other k a f j n)
  ])

-- recording the value x, where z says whether its variable is marked
pub bind_other : (z : Bool) (x : ℕ) (r : ℕ → Bool) (y : ℕ) → y ≢ x → cond {A = ℕ → Bool} z (put x true r) r y ≡ r y
bind_other true x r y n = put_other x true r y n
bind_other false x r y n = refl

pub bind_at : (z : Bool) (x : ℕ) (r : ℕ → Bool) → z ≡ true → cond {A = ℕ → Bool} z (put x true r) r x ≡ true
bind_at z x r e = rw e (put_same x true r)

pub bind_still : (z : Bool) (x : ℕ) (r : ℕ → Bool) (y : ℕ) → r y ≡ true → cond {A = ℕ → Bool} z (put x true r) r y ≡ true
bind_still false x r y e = e
bind_still true x r y e = elim (same? y x) [ inl q ↦ put_at x true r y q | inr n ↦ put_other x true r y n ∙ e ]

pub bind_is : (z : Bool) (x : ℕ) (r : ℕ → Bool) (y : ℕ) → cond {A = ℕ → Bool} z (put x true r) r y ≡ true → (r y ≡ true) ⊎ ((z ≡ true) × (y ≡ x))
bind_is false x r y e = inl e
bind_is true x r y e = elim (same? y x) [ inl q ↦ inr (refl, q) | inr n ↦ inl (sym (put_other x true r y n) ∙ e) ]

-- maps of two keys
module _ {A : Type 0} where
  pub put₂_at : (k l : ℕ) (a : A) (f : ℕ → ℕ → A) (i j : ℕ) → i ≡ k → j ≡ l → put₂ k l a f i j ≡ a
  put₂_at k l a f i j p q = ap (λ (h : ℕ → A). h j) (put_at k (put l a (f k)) f i p) ∙ put_at l a (f k) j q

  pub put₂_other : (k l : ℕ) (a : A) (f : ℕ → ℕ → A) (i j : ℕ) → (i ≡ k → j ≡ l → ⊥) → put₂ k l a f i j ≡ f i j
  put₂_other k l a f i j n = elim (same? i k) [
    | inl p ↦ ap (λ (h : ℕ → A). h j) (put_at k (put l a (f k)) f i p) ∙ put_other l a (f k) j (n p) ∙ ap (λ (h : ℕ). f h j) (sym p)
    | inr p ↦ ap (λ (h : ℕ → A). h j) (put_other k (put l a (f k)) f i p)
  ]

-- is it this pair of keys?
pub here? : (i k j l : ℕ) → ((i ≡ k) × (j ≡ l)) ⊎ (i ≡ k → j ≡ l → ⊥)
here? i k j l = elim (same? i k) [
  | inl p ↦ elim (same? j l) [ inl q ↦ inl (p, q) | inr q ↦ inr (λ _ h. q h) ]
  | inr p ↦ inr (λ h _. p h)
]

pub some_inj : {a b : ℕ} → ◌≡◌ {A = Option ℕ} (some a) (some b) → a ≡ b
some_inj e = some-injective _ _ e

pub some_none : {o : Option ℕ} {a : ℕ} → o ≡ some a → o ≡ none → ⊥
some_none {o} {a} p q = none-ne-some a (sym q ∙ p)

-- an entry of the changed map is the new one or an old one
pub put₂_is : (k l x : ℕ) (f : ℕ → ℕ → Option ℕ) (i j e : ℕ) → put₂ k l (some x) f i j ≡ some e
    → ((i ≡ k) × (j ≡ l) × (e ≡ x)) ⊎ (f i j ≡ some e)
put₂_is k l x f i j e q = elim (here? i k j l) [
  | inl h ↦ inl (h.0, h.1, some_inj (sym q ∙ put₂_at k l (some x) f i j h.0 h.1))
  | inr n ↦ inr (sym (put₂_other k l (some x) f i j n) ∙ q)
]

pub or_none : (a b : Option ℕ) → or_else a b ≡ none → (a ≡ none) × (b ≡ none)
or_none (some x) b e = absurd (some_none refl e)
or_none none b e = (refl, e)
