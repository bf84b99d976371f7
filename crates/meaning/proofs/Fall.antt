-- What is scheduled and could still be falls with each turn of the machine, and starts within the rooms of its stacks: predecessors are no more than
-- destinations. Assumes nothing.
use Prim.Native.Nat.{ℕ, suc, ◌+◌, ◌<◌, ◌≤◌, ◌*◌}
use mathlib.Core.Path.{refl}
use mathlib.Core.List.{List, [], ◌∷◌, map, reverse}
use mathlib.Core.Option.{some}
use lib.ListN.{length, take}
use native.Mathlib.Omega.{arith}
use native.Mathlib.Nat.{le_trans}
use Rattle.entity.specs.Limits.{limits, call_room, result_room}
use Rattle.definition.specs.Base.{without, has}
use Rattle.definition.specs.Form.{Graph, Form, def}
use Rattle.definition.specs.Read.{settle, resolve}
use Rattle.definition.specs.Session.{bit}
use Rattle.meaning.specs.Machine.{Task, look, finish, Conf, conf, schedule, visit, turn}
use Rattle.meaning.proofs.Reading.{Sound}
use Rattle.meaning.proofs.Lacking.{Has, Somes, settle_somes, weigh_mono, weigh_le, weigh_has}
use Rattle.meaning.proofs.Heights.{calls_left, looks_left, Low, Within, low_more, schedule_length, visit_within}
use Rattle.meaning.proofs.Sums.{sum, sum_le, sum_most, places, sum_swap, bit_mono, count_le, sum_sucs}
use Rattle.meaning.proofs.Ranges.{Bounds}
use Rattle.meaning.proofs.Lists.{has_in, in_has}

module _ (g : Graph) (v : ℕ) where
  -- scheduled, and what could still be
  abbrev pub left : Conf → ℕ
  left c = length c.tasks + calls_left g v c.form

module _ (g : Graph) (G : Sound g) (v : ℕ) where
  pub turn_falls : (t : Task) (ts : List Task) (rs : List ℕ) (s : Form) → Low g (t ∷ ts)
      → left g v (turn g v (t ∷ ts) rs s) < left g v (conf (t ∷ ts) rs s)
  turn_falls (look p) ts rs s l =
      let w = visit_within g G v (length ts + calls_left g v s) (suc (length rs) + length ts + looks_left g v s) p ts rs s l.0 l.1 (omega arith) (omega arith) in
      omega (arith, w.calls)
  turn_falls (finish x c) ts rs s l =
      let n = length (g.preds c) in
      let rest = without x (map (resolve s) (reverse (take n rs))) in
      let up : Somes s (settle g c x (reverse (take n rs)) s).1 = settle_somes g c x (reverse (take n rs)) s rest in
      omega (arith, weigh_mono (λ d. suc (length (g.preds d))) v s (settle g c x (reverse (take n rs)) s).1 up g.blocks)

-- predecessors are no more than destinations
preds_dests : (g : Graph) → Sound g → sum (λ b. length (g.preds b)) g.blocks ≤ sum (λ p. length (g.dests p)) g.blocks
preds_dests g G =
    le_trans (sum_le (λ b. length (g.preds b)) (λ b. sum (λ p. bit (has p (g.preds b))) n) n (λ b _. places some n (g.preds b) (G.nodup b) (λ p i. (p, G.range b p i, refl))))
    (le_trans (omega (arith, sum_swap (λ b p. bit (has p (g.preds b))) n n))
    (sum_le (λ p. sum (λ b. bit (has p (g.preds b))) n) (λ p. length (g.dests p)) n (λ p _. le_trans (sum_le (λ b. bit (has p (g.preds b))) (λ b. bit (has b (g.dests p))) n
    (λ b _. bit_mono (has p (g.preds b)) (has b (g.dests p)) (λ e. has_in b (g.dests p) (G.names b p (in_has p (g.preds b) e)))))
    (count_le (g.dests p) n))))
  where
    n : ℕ
    n = g.blocks

module _ (g : Graph) (G : Sound g) (B : Bounds g) (v : ℕ) where
  total : sum (λ c. length (g.preds c)) g.blocks ≤ limits.blocks * limits.dests
  total = omega (arith, B.few, preds_dests g G, sum_most limits.dests (λ p. length (g.dests p)) g.blocks (λ p _. B.dests p))

  total_calls : sum (λ c. suc (length (g.preds c))) g.blocks ≤ call_room limits
  total_calls = omega (arith, B.few, total, sum_sucs (λ c. length (g.preds c)) g.blocks)

  -- from the first visit of a use in b on, and from the start of settling the parameter x of b, which has a definition of v
  pub use_within : (b : ℕ) (s : Form) → b < g.blocks → Within g v (call_room limits) (result_room limits) (visit g v b [] [] s (def s v b))
  use_within b s lb = visit_within g G v (call_room limits) (result_room limits) b [] [] s lb tt
      (omega (arith, total_calls, weigh_le (λ c. suc (length (g.preds c))) v s g.blocks))
      (omega (arith, total, weigh_le (λ c. length (g.preds c)) v s g.blocks))

  pub seal_within : (x b : ℕ) (s : Form) → b < g.blocks → Has (def s v b)
      → Within g v (call_room limits) (result_room limits) (conf (schedule g x b []) [] s)
  seal_within x b s lb q = record {
    low = low_more g (g.preds b) (finish x b ∷ []) (λ p i. G.range b p i) tt;
    calls = omega (arith, total_calls, schedule_length g x b [], weigh_has (λ c. suc (length (g.preds c))) v s b q g.blocks lb);
    both = omega (arith, total, schedule_length g x b [], weigh_has (λ c. length (g.preds c)) v s b q g.blocks lb);
  }
