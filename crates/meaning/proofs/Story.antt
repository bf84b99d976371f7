-- The form tells a block's own acts: each change of the form keeps what the acts before it said. Assumes nothing.
use Prim.Native.Nat.{ℕ, ◌<◌, ◌≤◌}
use mathlib.Core.Path.{◌≡◌, refl, sym, ap, ◌∙◌, fun_ext}
use mathlib.Core.Logic.{◌≢◌, ◌⊎◌, inl, inr, ⊎_map}
use mathlib.Core.Option.{Option, some}
use mathlib.Core.List.{List, [], ◌∷◌, ◌++◌, append_assoc}
use native.Mathlib.Omega.{arith}
use native.Mathlib.Nat.{le_trans}
use Rattle.definition.specs.Base.{put, or_else}
use Rattle.definition.specs.Form.{Graph, Form, Info, made}
use Rattle.definition.specs.Read.{resolve}
use Rattle.definition.specs.Session.{Done}
use Rattle.meaning.specs.Path.{In, Act, makes, gives, uses, act, acts}
use Rattle.meaning.proofs.Maps.{same?, put_other, put_at}
use Rattle.meaning.proofs.Facts.{cur, Told, OwnParam}
use Rattle.meaning.proofs.Inv.{Grow}
use Rattle.meaning.proofs.Lists.{in_cases, in_one, in_cons}

-- as Told, but for what a definition takes
abbrev pub Tells : Form → ℕ → (ℕ → Option ℕ) → List ℕ → List Act → Type 0
Tells s b f ms [] = Unit {0}
Tells s b f ms (makes x ∷ r) = (In x ms → ⊥) × (x < s.next) × ((s.info x).home ≡ b) × ((s.info x).sort ≡ made) × Tells s b f (x ∷ ms) r
Tells s b f ms (gives v x ∷ r) = Tells s b (put v (some x) f) ms r
Tells s b f ms (uses v x ∷ r) = ((o : ℕ) × (f v ≡ some o) × (resolve s x ≡ resolve s o)) × Tells s b f ms r

pub record Keeps (s s' : Form) : Type 0 where
  pub res : (x y : ℕ) → resolve s x ≡ resolve s y → resolve s' x ≡ resolve s' y
  pub info : (x : ℕ) → x < s.next → s'.info x ≡ s.info x
  pub more : s.next ≤ s'.next

pub keeps : {s s' : Form} → Grow s s' → Keeps s s'
keeps h = record { res = h.res; info = h.info; more = h.more }

abbrev pub Under : (ℕ → Option ℕ) → (ℕ → Option ℕ) → Type 0
Under f f' = (v o : ℕ) → f v ≡ some o → f' v ≡ some o

pub under_put : (f f' : ℕ → Option ℕ) (v x : ℕ) → Under f f' → Under (put v (some x) f) (put v (some x) f')
under_put f f' v x h w o e = elim (same? w v) [
  | inl q ↦ put_at v (some x) f' w q ∙ sym (put_at v (some x) f w q) ∙ e
  | inr n ↦ put_other v (some x) f' w n ∙ h w o (sym (put_other v (some x) f w n) ∙ e)
]

pub tells_mono : (s s' : Form) → Keeps s s' → (b : ℕ) (f f' : ℕ → Option ℕ) (ms : List ℕ) → Under f f' → (r : List Act)
    → Tells s b f ms r → Tells s' b f' ms r
tells_mono s s' h b f f' ms u [] k = tt
tells_mono s s' h b f f' ms u (makes x ∷ r) k =
    let i = h.info x k.1 in
    (k.0, le_trans k.1 h.more, ap (λ (j : Info). j.home) i ∙ k.2, ap (λ (j : Info). j.sort) i ∙ k.3, tells_mono s s' h b f f' (x ∷ ms) u r k.4)
tells_mono s s' h b f f' ms u (gives v x ∷ r) k = tells_mono s s' h b (put v (some x) f) (put v (some x) f') ms (under_put f f' v x u) r k
tells_mono s s' h b f f' ms u (uses v x ∷ r) k = ((k.0.0, u v k.0.0 k.0.1, h.res x k.0.0 k.0.2), tells_mono s s' h b f f' ms u r k.1)

-- ms and what some acts make
abbrev pub made_by : List ℕ → List Act → List ℕ
made_by ms [] = ms
made_by ms (makes x ∷ r) = made_by (x ∷ ms) r
made_by ms (gives v x ∷ r) = made_by ms r
made_by ms (uses v x ∷ r) = made_by ms r

pub made_below : (s : Form) (b : ℕ) (f : ℕ → Option ℕ) (ms : List ℕ) (r : List Act) → Tells s b f ms r → ((y : ℕ) → In y ms → y < s.next)
    → (y : ℕ) → In y (made_by ms r) → y < s.next
made_below s b f ms [] k low = low
made_below s b f ms (makes x ∷ r) k low = made_below s b f (x ∷ ms) r k.4 (in_cons x ms k.1 low)
made_below s b f ms (gives v x ∷ r) k low = made_below s b (put v (some x) f) ms r k low
made_below s b f ms (uses v x ∷ r) k low = made_below s b f ms r k.1 low

-- more acts
pub tells_append : (s : Form) (b : ℕ) (f : ℕ → Option ℕ) (ms : List ℕ) (r q : List Act) → Tells s b f ms r → Tells s b (cur f r) (made_by ms r) q
    → Tells s b f ms (r ++ q)
tells_append s b f ms [] q k l = l
tells_append s b f ms (makes x ∷ r) q k l = (k.0, k.1, k.2, k.3, tells_append s b f (x ∷ ms) r q k.4 l)
tells_append s b f ms (gives v x ∷ r) q k l = tells_append s b (put v (some x) f) ms r q k l
tells_append s b f ms (uses v x ∷ r) q k l = (k.0, tells_append s b f ms r q k.1 l)

-- what stands for a variable: the last definition, else what stood at the start
pub cur_or : (f : ℕ → Option ℕ) (r : List Act) (g : ℕ → Option ℕ) (v : ℕ) → cur (λ w. or_else (g w) (f w)) r v ≡ or_else (cur g r v) (f v)
cur_or f [] g v = refl
cur_or f (makes x ∷ r) g v = cur_or f r g v
cur_or f (uses w x ∷ r) g v = cur_or f r g v
cur_or f (gives w x ∷ r) g v = ap (λ (h : ℕ → Option ℕ). cur h r v) (fun_ext (λ u. elim (same? u w) [
  | inl q ↦ put_at w (some x) (λ y. or_else (g y) (f y)) u q ∙ sym (ap (λ (z : Option ℕ). or_else z (f u)) (put_at w (some x) g u q))
  | inr n ↦ put_other w (some x) (λ y. or_else (g y) (f y)) u n ∙ sym (ap (λ (z : Option ℕ). or_else z (f u)) (put_other w (some x) g u n))
])) ∙ cur_or f r (put w (some x) g) v

pub cur_append : (f : ℕ → Option ℕ) (r q : List Act) → cur f (r ++ q) ≡ cur (cur f r) q
cur_append f [] q = refl
cur_append f (makes x ∷ r) q = cur_append f r q
cur_append f (gives v x ∷ r) q = cur_append (put v (some x) f) r q
cur_append f (uses v x ∷ r) q = cur_append f r q

pub acts_append : (b : ℕ) (ds es : List Done) → acts b (ds ++ es) ≡ acts b ds ++ acts b es
acts_append b [] es = refl
acts_append b (d ∷ ds) es = ap (λ (l : List Act). act b d ++ l) (acts_append b ds es) ∙ sym (append_assoc (act b d) (acts b ds) (acts b es))

-- with what definitions take, all is told
abbrev MadeIn : List Act → List ℕ → Type 0
MadeIn pre ms = (x : ℕ) → In (makes x) pre → In x ms

abbrev UsedIn : List Act → List ℕ → Type 0
UsedIn pre us = (w x : ℕ) → In (uses w x) pre → In x us

made_makes : (pre : List Act) (ms : List ℕ) (y : ℕ) → MadeIn pre ms → MadeIn (pre ++ makes y ∷ []) (y ∷ ms)
made_makes pre ms y h x i = elim (in_cases (makes x) pre (makes y ∷ []) i) [ inl j ↦ inr (h x j) | inr j ↦ let e = in_one (makes x) (makes y) j in inl (cc) ]

made_other : (pre : List Act) (ms : List ℕ) (c : Act) → ((x : ℕ) → makes x ≡ c → ⊥) → MadeIn pre ms → MadeIn (pre ++ c ∷ []) ms
made_other pre ms c n h x i = elim (in_cases (makes x) pre (c ∷ []) i) [ inl j ↦ h x j | inr j ↦ absurd (n x (in_one (makes x) c j)) ]

used_uses : (pre : List Act) (us : List ℕ) (v y : ℕ) → UsedIn pre us → UsedIn (pre ++ uses v y ∷ []) (y ∷ us)
used_uses pre us v y h w x i = elim (in_cases (uses w x) pre (uses v y ∷ []) i) [ inl j ↦ inr (h w x j) | inr j ↦ let e = in_one (uses w x) (uses v y) j in inl (cc) ]

used_other : (pre : List Act) (us : List ℕ) (c : Act) → ((w x : ℕ) → uses w x ≡ c → ⊥) → UsedIn pre us → UsedIn (pre ++ c ∷ []) us
used_other pre us c n h w x i = elim (in_cases (uses w x) pre (c ∷ []) i) [ inl j ↦ h w x j | inr j ↦ absurd (n w x (in_one (uses w x) c j)) ]

act_num : Act → ℕ
act_num (makes x) = 0
act_num (gives v x) = 1
act_num (uses v x) = 2

apart : {a c : Act} → a ≡ c → act_num a ≢ act_num c → ⊥
apart e n = n (ap act_num e)

module _ (g : Graph) (s : Form) (root : (x : ℕ) → (s.info x).sort ≡ made → resolve s x ≡ x) (b : ℕ) (all : List Act)
    (own : (v x : ℕ) (q r : List Act) → all ≡ q ++ gives v x ∷ r
    → (In (makes x) q ⊎ ((w : ℕ) × In (uses w x) q)) ⊎ OwnParam g s b x) where
  pub told_all : (f : ℕ → Option ℕ) (ms us : List ℕ) (pre r : List Act) → all ≡ pre ++ r → MadeIn pre ms → UsedIn pre us → Tells s b f ms r
      → Told g s b f ms us r
  unfolding act_num
  told_all f ms us pre [] e m u k = tt
  told_all f ms us pre (makes x ∷ r) e m u k = (
    k.0,
    k.2,
    k.3,
    root x k.3,
    told_all f (x ∷ ms) us (pre ++ makes x ∷ []) r (e ∙ sym (append_assoc pre (makes x ∷ []) r)) (made_makes pre ms x m) (used_other pre us (makes x) (λ w y q. apart q (omega arith)) u) k.4,
  )
  told_all f ms us pre (gives v x ∷ r) e m u k = (
    ⊎_map (⊎_map (m x) (λ i. u i.0 x i.1)) (λ o. o) (own v x pre r e),
    told_all (put v (some x) f) ms us (pre ++ gives v x ∷ []) r (e ∙ sym (append_assoc pre (gives v x ∷ []) r)) (made_other pre ms (gives v x) (λ y q. apart q (omega arith)) m)
        (used_other pre us (gives v x) (λ w y q. apart q (omega arith)) u) k,
  )
  told_all f ms us pre (uses v x ∷ r) e m u k =
      (k.0, told_all f ms (x ∷ us) (pre ++ uses v x ∷ []) r (e ∙ sym (append_assoc pre (uses v x ∷ []) r)) (made_other pre ms (uses v x) (λ y q. apart q (omega arith)) m) (used_uses pre us v x u) k.1)
