-- The zero log only grows, in a use and in a seal: settling alone writes to it, and appends. So the difference of its lengths counts what was added.
-- Assumes nothing.
use Prim.Native.Nat.{ℕ, zero, suc, ◌≤◌}
use mathlib.Core.Path.{◌≡◌, refl, sym, ap, subst}
use mathlib.Core.Bool.{Bool, true, false, cond}
use mathlib.Core.Option.{Option, none, some}
use mathlib.Core.List.{List, [], ◌∷◌, map}
use lib.Dec.{eqb}
use lib.ListN.{length, length-append}
use native.Mathlib.Nat.{le_refl, le_trans}
use native.Mathlib.Omega.{arith}
use Rattle.entity.specs.Types.{step_of}
use Rattle.definition.specs.Base.{every, without, before}
use Rattle.definition.specs.Form.{Graph, Form, def, with_args}
use Rattle.definition.specs.Read.{Got, mark, resolve, settle_left, alias, feed_all, read_all, fill, begin, walk, read_past, read_on, read, depth, wait, new_param}
use Rattle.definition.specs.Read.{set_pending, settle_pending, place_block, log_zero, emit_step}
use Rattle.definition.specs.Session.{mark_sealed, seal_form, seal_each}
use Rattle.meaning.proofs.Emit.{emit_is}

abbrev More : Form → Form → Type 0
More s t = length s.zeros ≤ length t.zeros

mark_same : (v x : ℕ) (bs : List ℕ) (s : Form) → (mark v x bs s).zeros ≡ s.zeros
mark_same v x [] s = refl
mark_same v x (b ∷ bs) s = mark_same v x bs s

mark_more : (v x : ℕ) (bs : List ℕ) (s t : Form) → More s t → More s (mark v x bs t)
mark_more v x bs s t h = omega (arith, h, ap length (mark_same v x bs t))

settle_more : (g : Graph) (b x : ℕ) (rs : List ℕ) (s : Form) (ys : List ℕ) → More s (settle_left g b x rs s ys).1
settle_more g b x rs s [] =
    let o = step_of (s.info x).type in
    let s₁ = log_zero g.call b (place_block b s) in
    let same : length (emit_step o b s₁).zeros ≡ length s₁.zeros = ap (λ (t : Form). length t.zeros) (emit_is o b s₁) in
    subst (λ (n : ℕ). length s.zeros ≤ n) (sym same) (omega (arith, length-append s.zeros ((g.call, b) ∷ [])))
settle_more g b x rs s (y ∷ ys) = by (every (eqb y) ys)
  where
    by : (z : Bool) → More s (cond {A = Got} z (y, alias b x y s) (x, with_args s (feed_all g b (g.preds b) rs s.args))).1
    by true = le_refl _
    by false = le_refl _

module _ (g : Graph) (rec : ℕ → Form → Got) (more : (p : ℕ) (s : Form) → More s (rec p s).1) where
  all_more : (ps : List ℕ) (s : Form) → More s (read_all rec ps s).1
  all_more [] s = le_refl _
  all_more (p ∷ ps) s = le_trans (more p s) (all_more ps (rec p s).1)

  fill_more : (b x : ℕ) (s : Form) → More s (fill rec g b x s).1
  fill_more b x s = let q = read_all rec (g.preds b) s in le_trans (all_more (g.preds b) s) (settle_more g b x q.0 q.1 (without x (map (resolve q.1) q.0)))

  begin_more : (v c x : ℕ) (bs : List ℕ) (s : Form) (z : Bool) → More s (begin rec g v c x bs s z).1
  begin_more v c x bs s true = le_trans (mark_more v x bs s s (le_refl _)) (fill_more c x (mark v x bs s))
  begin_more v c x bs s false = mark_more v x bs s (wait v c x s) (le_refl _)

  past_more : (v : ℕ) (s : Form) (bs : List ℕ) (c : ℕ) (o : Option ℕ) → More s (read_past rec g v s bs c o).1
  past_more v s bs c (some x) = mark_more v x bs s s (le_refl _)
  past_more v s bs c none = begin_more v c s.next (before c bs) (new_param g v c s) (g.sealed c)

  on_more : (v b : ℕ) (s : Form) (o : Option ℕ) → More s (read_on rec g v b s o).1
  on_more v b s (some x) = le_refl _
  on_more v b s none = let w = walk (suc g.blocks) g s v [] b in past_more v s w.passed w.end w.met

read_more : (n : ℕ) (g : Graph) (v b : ℕ) (s : Form) → More s (read n g v b s).1
read_more zero g v b s = le_refl _
read_more (suc n) g v b s = on_more g (read n g v) (read_more n g v) v b s (def s v b)

pending_more : (g : Graph) (b : ℕ) (ws : List (ℕ × ℕ)) (s : Form) → More s (settle_pending g b ws s)
pending_more g b [] s = le_refl _
pending_more g b (w ∷ ws) s = le_trans (fill_more g (read (depth g) g w.0) (read_more (depth g) g w.0) b w.1 s) (pending_more g b ws _)

pub seal_more : (g : Graph) (s : Form) (b : ℕ) → length s.zeros ≤ length (seal_form g s b).zeros
seal_more g s b = pending_more (mark_sealed g b) b (s.pending b) (set_pending b [] s)

pub each_more : (bs : List ℕ) (g : Graph) (s : Form) → length s.zeros ≤ length (seal_each bs g s).1.zeros
each_more [] g s = le_refl _
each_more (b ∷ bs) g s = by (g.sealed b) refl (each_more bs g s) (le_trans (seal_more g s b) (each_more bs (mark_sealed g b) (seal_form g s b)))
  where
    by : (z : Bool) → g.sealed b ≡ z → More s (seal_each bs g s).1 → More s (seal_each bs (mark_sealed g b) (seal_form g s b)).1 → More s
        (seal_each (b ∷ bs) g s).1
    by true e p q = rw (e, seal_each) p
    by false e p q = rw (e, seal_each) q
