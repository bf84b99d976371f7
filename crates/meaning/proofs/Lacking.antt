-- Blocks without a definition of a variable: no step of reading takes a definition away, so their number, and what they weigh, never grows, and falls where
-- one is recorded. Assumes nothing.
use Prim.Native.Nat.{ℕ, ◌+◌, ◌<◌, ◌≤◌}
use mathlib.Core.Path.{◌≡◌, refl, sym, ap, ◌∙◌, subst}
use mathlib.Core.Logic.{inl, inr}
use mathlib.Core.Bool.{Bool, true, false, cond}
use mathlib.Core.Option.{Option, none, some}
use mathlib.Core.List.{List, [], ◌∷◌}
use lib.Dec.{eqb}
use native.Mathlib.Omega.{arith}
use Rattle.entity.specs.Limits.{limits, zero_room}
use Rattle.entity.specs.Types.{step_of}
use Rattle.definition.specs.Base.{put₂, or_else, every}
use Rattle.definition.specs.Form.{Form, Graph, def, with_args}
use Rattle.definition.specs.Read.{new_param, settle_left, mark, Got, alias, feed_all, write, log_zero, place_block}
use Rattle.meaning.proofs.Sums.{sum, sum_most, sum_le, sum_more}
use Rattle.meaning.proofs.Maps.{put₂_at, put₂_other, here?}
use Rattle.meaning.proofs.Emit.{emit_is}

-- a definition is recorded
abbrev pub Has : Option ℕ → Type 0
Has d = (o : ℕ) × (d ≡ some o)

pub or_has : {e : Option ℕ} (a : Option ℕ) (x : ℕ) → e ≡ some x → Has (or_else a e)
or_has (some y) x q = (y, refl)
or_has none x q = (x, q)

or_keeps : (a b b' : Option ℕ) → (Has b → Has b') → Has (or_else a b) → Has (or_else a b')
or_keeps (some x) b b' f h = (x, refl)
or_keeps none b b' f h = f h

-- what has a definition keeps one
abbrev pub Somes : Form → Form → Type 0
Somes s s' = (w b : ℕ) → Has (def s w b) → Has (def s' w b)

-- what the blocks without a definition weigh
abbrev pub weight : ℕ → Option ℕ → ℕ
weight w none = w
weight w (some x) = 0

abbrev pub weigh : (ℕ → ℕ) → ℕ → Form → ℕ → ℕ
weigh f v s n = sum (λ b. weight (f b) (def s v b)) n

weight_has : (w : ℕ) (a b : Option ℕ) → (Has a → Has b) → weight w b ≤ weight w a
weight_has w none none h = omega arith
weight_has w none (some y) h = omega arith
weight_has w (some x) b h = let k = h (x, refl) in subst (λ (c : Option ℕ). weight w c ≤ 0) (sym k.1) (omega arith)

weight_le : (w : ℕ) (d : Option ℕ) → weight w d ≤ w
weight_le w none = omega arith
weight_le w (some x) = omega arith

module _ (f : ℕ → ℕ) (v : ℕ) (s : Form) where
  pub weigh_le : (n : ℕ) → weigh f v s n ≤ sum f n
  weigh_le n = sum_le (λ b. weight (f b) (def s v b)) f n (λ b _. weight_le (f b) (def s v b))

  -- a block with a definition weighs nothing
  pub weigh_has : (b : ℕ) → Has (def s v b) → (n : ℕ) → b < n → f b + weigh f v s n ≤ sum f n
  weigh_has b q n l = sum_more (f b) (λ c. weight (f c) (def s v c)) f b n (λ c. weight_le (f c) (def s v c)) (omega (arith, ap (weight (f b)) q.1)) l

  module _ (s' : Form) (up : Somes s s') where
    pub weigh_mono : (n : ℕ) → weigh f v s' n ≤ weigh f v s n
    weigh_mono n = sum_le (λ b. weight (f b) (def s' v b)) (λ b. weight (f b) (def s v b)) n (λ b _. weight_has (f b) (def s v b) (def s' v b) (up v b))

    pub weigh_drop : (c : ℕ) → def s v c ≡ none → Has (def s' v c) → (n : ℕ) → c < n → f c + weigh f v s' n ≤ weigh f v s n
    weigh_drop c p q n l = sum_more (f c) (λ b. weight (f b) (def s' v b)) (λ b. weight (f b) (def s v b)) c n (λ b. weight_has (f b) (def s v b) (def s' v b) (up v b))
        (omega (arith, ap (weight (f c)) p, ap (weight (f c)) q.1)) l

-- how many blocks below n have no definition of v
abbrev pub lacks : ℕ → Form → ℕ → ℕ
lacks v s n = weigh (λ b. 1) v s n

pub lacks_le : (v : ℕ) (s : Form) (n : ℕ) → lacks v s n ≤ n
lacks_le v s n = omega (arith, weigh_le (λ b. 1) v s n, sum_most 1 (λ b. 1) n (λ _ _. omega arith))

module _ (v : ℕ) (s s' : Form) (up : Somes s s') where
  pub fewer : (n : ℕ) → lacks v s' n ≤ lacks v s n
  fewer n = weigh_mono (λ b. 1) v s s' up n

  pub less : (c : ℕ) → def s v c ≡ none → Has (def s' v c) → (n : ℕ) → c < n → lacks v s' n < lacks v s n
  less c p q n l = omega (arith, weigh_drop (λ b. 1) v s s' up c p q n l)

-- the pairs of a variable and a block without a definition, at the limits
abbrev pub lack_all : Form → ℕ
lack_all s = sum (λ w. lacks w s limits.blocks) limits.variables

pub all_le : (s : Form) → lack_all s ≤ zero_room limits
all_le s = sum_most limits.blocks (λ w. lacks w s limits.blocks) limits.variables (λ w _. lacks_le w s limits.blocks)

module _ (s s' : Form) (up : Somes s s') where
  pub all_fewer : lack_all s' ≤ lack_all s
  all_fewer = sum_le (λ w. lacks w s' limits.blocks) (λ w. lacks w s limits.blocks) limits.variables (λ w _. fewer w s s' up limits.blocks)

  pub all_less : (v c : ℕ) → def s v c ≡ none → Has (def s' v c) → v < limits.variables → c < limits.blocks → lack_all s' < lack_all s
  all_less v c p q lv lc = omega (
    arith,
    sum_more 1 (λ w. lacks w s' limits.blocks) (λ w. lacks w s limits.blocks) v limits.variables
        (λ w. fewer w s s' up limits.blocks) (omega (arith, less v s s' up c p q limits.blocks lc)) lv,
  )

-- ---- reading keeps definitions

pub mark_somes : (v x : ℕ) (bs : List ℕ) (s : Form) → Somes s (mark v x bs s)
mark_somes v x [] s w b h = h
mark_somes v x (c ∷ bs) s w b h =
    let t = mark v x bs s in
    or_keeps (t.own w b) (t.entry w b) (put₂ v c (some x) t.entry w b) (λ e. elim (here? w v b c) [
      | inl q ↦ (x, put₂_at v c (some x) t.entry w b q.0 q.1)
      | inr n ↦ (e.0, put₂_other v c (some x) t.entry w b n ∙ e.1)
    ]) (mark_somes v x bs s w b h)

pub settle_somes : (g : Graph) (b x : ℕ) (rs : List ℕ) (s : Form) (left : List ℕ) → Somes s (settle_left g b x rs s left).1
settle_somes g b x rs s [] w c h = rw (emit_is (step_of (s.info x).type) b (log_zero g.call b (place_block b s))) h
settle_somes g b x rs s (y ∷ ys) w c h = by (every (eqb y) ys)
  where
    by : (z : Bool) → Has (def (cond {A = Got} z (y, alias b x y s) (x, with_args s (feed_all g b (g.preds b) rs s.args))).1 w c)
    by true = h
    by false = h

pub param_somes : (g : Graph) (v c : ℕ) (s : Form) → Somes s (new_param g v c s)
param_somes g v c s w b h = mark_somes v s.next (c ∷ []) s w b h

pub param_has : (g : Graph) (v c : ℕ) (s : Form) → Has (def (new_param g v c s) v c)
param_has g v c s = or_has (s.own v c) s.next (put₂_at v c (some s.next) s.entry v c refl refl)

pub write_somes : (s : Form) (v b x : ℕ) → Somes s (write v b x s)
write_somes s v b x w c o = elim (here? w v c b) [
  | inl k ↦ (x, ap (λ (d : Option ℕ). or_else d (s.entry w c)) (put₂_at v b (some x) s.own w c k.0 k.1))
  | inr n ↦ (o.0, ap (λ (d : Option ℕ). or_else d (s.entry w c)) (put₂_other v b (some x) s.own w c n) ∙ o.1)
]
