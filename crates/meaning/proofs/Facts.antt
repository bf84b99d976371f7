-- The facts of a finished session from which demand 3 follows along a path: definitions alone. Assumes nothing.
use Prim.Native.Nat.{ℕ, ◌<◌}
use mathlib.Core.Path.{◌≡◌}
use mathlib.Core.Logic.{◌⊎◌}
use mathlib.Core.Bool.{true, cond, Bool}
use mathlib.Core.Option.{Option, none, some}
use mathlib.Core.List.{List, [], ◌∷◌}
use lib.Dec.{eqb}
use lib.ListN.{length, get_or, drop}
use Rattle.definition.specs.Base.{put}
use Rattle.definition.specs.Form.{Graph, Form, Sort, made, param, nought, caller, def}
use Rattle.definition.specs.Read.{resolve, type_of}
use Rattle.definition.specs.Session.{State}
use Rattle.meaning.specs.Path.{In, Act, makes, gives, uses, acts}

-- the argument that stands for the parameter y
abbrev pub arg_of : List ℕ → List ℕ → ℕ → Option ℕ
arg_of [] us y = none
arg_of (x ∷ xs) [] y = none
arg_of (x ∷ xs) (u ∷ us) y = cond (eqb y x) (some u) (arg_of xs us y)

-- what stands for each variable after some acts
abbrev pub cur : (ℕ → Option ℕ) → List Act → ℕ → Option ℕ
cur f [] = f
cur f (makes x ∷ us) = cur f us
cur f (gives v x ∷ us) = cur (put v (some x) f) us
cur f (uses v x ∷ us) = cur f us

-- The value e, which stands for v where b begins, is each predecessor's value at its end, or a parameter that each predecessor feeds with it. Of the
-- graph and the form this takes what it reads: `held` is what each block records of a variable, `res` where aliases lead.
module _ (sealed : ℕ → Bool) (preds dests : ℕ → List ℕ) (held : ℕ → ℕ → Option ℕ) (res : ℕ → ℕ) (args : ℕ → ℕ → List ℕ)
    (K : ℕ → List ℕ) where
  pub data Comes (v b e : ℕ) : Type 0 where
    same : sealed b ≡ true → ((p : ℕ) → In p (preds b) → (o : ℕ) × (held v p ≡ some o) × (res o ≡ res e)) → Comes v b e
    kept : sealed b ≡ true → res e ≡ e → In e (K b)
        → ((p : ℕ) → In p (preds b) → (o : ℕ) × (held v p ≡ some o)
        × ((i : ℕ) → i < length (dests p) → get_or (dests p) i 0 ≡ b → (a : ℕ) × (arg_of (K b) (args p i) e ≡ some a) × (res a ≡ res o)))
        → Comes v b e

-- where the first n of the arguments of each destination are left out
abbrev pub Edge : Graph → (ℕ → ℕ → ℕ) → Form → (ℕ → List ℕ) → ℕ → ℕ → ℕ → Type 0
Edge g n s K v b e = Comes g.sealed g.preds g.dests (def s) (resolve s) (λ p i. drop (n p i) (s.args p i)) K v b e

-- a builder's parameter, or a caller's
abbrev pub IsParam : Sort → Type 0
IsParam k = (k ≡ param) ⊎ (k ≡ caller)

module _ (g : Graph) (s : Form) where
  -- x is a caller's parameter of b, and no alias
  abbrev pub OwnParam : ℕ → ℕ → Type 0
  OwnParam b x = ((s.info x).home ≡ b) × ((s.info x).sort ≡ caller) × (resolve s x ≡ x)

  -- acts that the form explains: f what stands for each variable, ms the values made before, us the answers given before
  abbrev pub Told : ℕ → (ℕ → Option ℕ) → List ℕ → List ℕ → List Act → Type 0
  Told b f ms us [] = Unit {0}
  Told b f ms us (makes x ∷ r) = (In x ms → ⊥) × ((s.info x).home ≡ b) × ((s.info x).sort ≡ made) × (resolve s x ≡ x) × Told b f (x ∷ ms) us r
  Told b f ms us (gives v x ∷ r) = ((In x ms ⊎ In x us) ⊎ OwnParam b x) × Told b (put v (some x) f) ms us r
  Told b f ms us (uses v x ∷ r) = ((o : ℕ) × (f v ≡ some o) × (resolve s x ≡ resolve s o)) × Told b f ms (x ∷ us) r

pub record Facts (t : State) : Type 0 where
  pub told : (b : ℕ) → Told t.graph t.form b (λ v. t.form.entry v b) [] [] (acts b t.done)
  pub last : (b v : ℕ) → def t.form v b ≡ cur (λ w. t.form.entry w b) (acts b t.done) v
  pub inside : (b p : ℕ) → In p (t.graph.preds b) → b < t.graph.blocks
  pub edge : (b v e : ℕ) → t.graph.sealed b ≡ true → t.form.entry v b ≡ some e → Edge t.graph (λ p i. 0) t.form t.form.params v b e
  pub first : (v e : ℕ) → t.form.entry v 0 ≡ some e
      → ((t.form.info (resolve t.form e)).sort ≡ nought) × ((t.form.info (resolve t.form e)).home ≡ 0)
      × ((t.form.info (resolve t.form e)).type ≡ type_of t.graph v)
  pub params : (b x : ℕ) → In x (t.form.params b) → ((t.form.info x).home ≡ b) × IsParam (t.form.info x).sort
