-- The two stacks of the machine grow no higher than they may at the start: what is scheduled and could still be scheduled never grows, as each block is
-- opened once. Assumes nothing.
use Prim.Native.Nat.{ℕ, zero, suc, ◌+◌, ◌<◌, ◌≤◌}
use mathlib.Core.Path.{◌≡◌, refl, ap, ◌∙◌}
use mathlib.Core.Logic.{inl, inr}
use mathlib.Core.Bool.{Bool, true, false}
use mathlib.Core.Option.{Option, none, some}
use mathlib.Core.List.{List, [], ◌∷◌, ◌++◌, map, reverse}
use lib.ListN.{length, take, length-append, length-drop, length-map, drop}
use native.Mathlib.Omega.{arith}
use Rattle.definition.specs.Base.{before, without}
use Rattle.definition.specs.Form.{Graph, Form, def}
use Rattle.definition.specs.Read.{mark, new_param, wait, walk, settle, resolve}
use Rattle.meaning.specs.Machine.{Task, look, finish, Conf, conf, schedule, open_param, find, visit, turn, turns}
use Rattle.meaning.specs.Path.{In}
use Rattle.meaning.proofs.Reading.{Sound, walked}
use Rattle.meaning.proofs.Lacking.{Somes, mark_somes, settle_somes, param_somes, weigh_mono, weigh, weigh_drop, param_has}

module _ (g : Graph) where
  -- every predecessor to look at is a block
  abbrev pub Low : List Task → Type 0
  Low [] = Unit {0}
  Low (look p ∷ ts) = (p < g.blocks) × Low ts
  Low (finish x b ∷ ts) = Low ts

  pub low_more : (ps : List ℕ) (ts : List Task) → ((p : ℕ) → In p ps → p < g.blocks) → Low ts → Low (map look ps ++ ts)
  low_more [] ts h l = l
  low_more (p ∷ ps) ts h l = (h p (inl refl), low_more ps ts (λ q i. h q (inr i)) l)

  pub schedule_length : (x c : ℕ) (ts : List Task) → length (schedule g x c ts) ≡ suc (length (g.preds c) + length ts)
  schedule_length x c ts = length-append (map look (g.preds c)) (finish x c ∷ ts) ∙ ap (λ (n : ℕ). n + suc (length ts)) (length-map (g.preds c) look) ∙ omega arith

module _ (g : Graph) (v : ℕ) where
  abbrev pub calls_left : Form → ℕ
  calls_left s = weigh (λ b. suc (length (g.preds b))) v s g.blocks

  abbrev pub looks_left : Form → ℕ
  looks_left s = weigh (λ b. length (g.preds b)) v s g.blocks

  -- the stacks and what could still come onto them
  pub record Within (a b : ℕ) (c : Conf) : Type 0 where
    pub low : Low g c.tasks
    pub calls : length c.tasks + calls_left c.form ≤ a
    pub both : length c.results + length c.tasks + looks_left c.form ≤ b

  -- where definitions stay, nothing more can come
  still_within : (a b : ℕ) (ts : List Task) (rs : List ℕ) (s t : Form) → Somes s t → Low g ts → length ts + calls_left s ≤ a
      → length rs + length ts + looks_left s ≤ b → Within a b (conf ts rs t)
  still_within a b ts rs s t up hl hc hb = record {
    low = hl;
    calls = omega (arith, hc, weigh_mono (λ d. suc (length (g.preds d))) v s t up g.blocks);
    both = omega (arith, hb, weigh_mono (λ d. length (g.preds d)) v s t up g.blocks);
  }

module _ (g : Graph) (G : Sound g) (v : ℕ) where
  -- the first turn, and each look: one call fewer is on its way
  pub visit_within : (a b p : ℕ) (ts : List Task) (rs : List ℕ) (s : Form) → p < g.blocks → Low g ts → length ts + calls_left g v s ≤ a
      → suc (length rs) + length ts + looks_left g v s ≤ b → Within g v a b (visit g v p ts rs s (def s v p))
  visit_within a b p ts rs s lp hl hc hb = by (def s v p) refl
    where
      by : (d : Option ℕ) → def s v p ≡ d → Within g v a b (visit g v p ts rs s d)
      by (some x) e = record { low = hl; calls = omega (arith, hc); both = omega (arith, hb) }
      by none e =
          let w = walk (suc g.blocks) g s v [] p in
          let y = walked g G v (suc g.blocks) s [] p lp e in
          past w.passed w.end w.met y.low y.unmet
        where
          past : (over : List ℕ) (c : ℕ) (m : Option ℕ) → c < g.blocks → (m ≡ none → def s v c ≡ none)
              → Within g v a b (find g v ts rs s over c m)
          past over c (some x) lc un = still_within g v a b ts (x ∷ rs) s (mark v x over s) (mark_somes v x over s) hl hc hb
          past over c none lc un = seal (g.sealed c)
            where
              x : ℕ
              x = s.next

              bs : List ℕ
              bs = before c over

              seal : (z : Bool) → Within g v a b (open_param g v c x (before c over) ts rs (new_param g v c s) z)
              seal true =
                  let t = mark v x bs (new_param g v c s) in
                  let up : Somes s t = λ w d o. mark_somes v x bs (new_param g v c s) w d (param_somes g v c s w d o) in
                  let at = mark_somes v x bs (new_param g v c s) v c (param_has g v c s) in
                  record {
                    low = low_more g (g.preds c) (finish x c ∷ ts) (λ q i. G.range c q i) hl;
                    calls = omega (arith, hc, schedule_length g x c ts, weigh_drop (λ d. suc (length (g.preds d))) v s t up c (un refl) at g.blocks lc);
                    both = omega (arith, hb, schedule_length g x c ts, weigh_drop (λ d. length (g.preds d)) v s t up c (un refl) at g.blocks lc);
                  }
              seal false = still_within g v a b ts (x ∷ rs) s (mark v x bs (wait v c x (new_param g v c s)))
                  (λ w d o. mark_somes v x bs (wait v c x (new_param g v c s)) w d (param_somes g v c s w d o)) hl hc hb

  pub turn_within : (a b : ℕ) (ts : List Task) (rs : List ℕ) (s : Form) → Within g v a b (conf ts rs s) → Within g v a b (turn g v ts rs s)
  turn_within a b [] rs s h = h
  turn_within a b (finish x c ∷ ts) rs s h =
      let qs = reverse (take (length (g.preds c)) rs) in
      let r = settle g c x qs s in
      still_within g v a b ts (r.0 ∷ drop (length (g.preds c)) rs) s r.1 (settle_somes g c x qs s (without x (map (resolve s) qs))) h.low (omega (arith, h.calls))
      (omega (arith, h.both, length-drop (length (g.preds c)) rs))
  turn_within a b (look p ∷ ts) rs s h = visit_within a b p ts rs s h.low.0 h.low.1 (omega (arith, h.calls)) (omega (arith, h.both))

  -- at every moment of a run
  pub run_within : (n a b : ℕ) (c : Conf) → Within g v a b c → Within g v a b (turns n g v c)
  run_within zero a b c h = h
  run_within (suc n) a b c h = run_within n a b (turn g v c.tasks c.results c.form) (turn_within a b c.tasks c.results c.form h)
