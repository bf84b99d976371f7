-- Room for values and for zeros: made values, what waits, what is at work and what could still be asked for pay for every value and every zero, as
-- each variable is asked for once in a block. Assumes nothing.
use Prim.Native.Nat.{ℕ, suc, ◌+◌, ◌*◌, ◌<◌, ◌≤◌}
use mathlib.Core.Path.{◌≡◌, refl, ap}
use mathlib.Core.Bool.{Bool, true, false, cond}
use mathlib.Core.Option.{Option, none, some}
use mathlib.Core.List.{List, [], ◌∷◌}
use lib.Dec.{eqb}
use lib.ListN.{length, length-append}
use native.Mathlib.Omega.{arith}
use Rattle.entity.specs.Limits.{limits, value_room, zero_room}
use Rattle.entity.specs.Types.{step_of}
use Rattle.definition.specs.Base.{put, or_else, every, has}
use Rattle.definition.specs.Form.{Form, Graph, def, with_args}
use Rattle.definition.specs.Read.{settle_left, Got, alias, log_zero, place_block, write, feed_all}
use Rattle.meaning.proofs.Sums.{sum, sum_change}
use Rattle.meaning.proofs.Lacking.{Somes, lack_all, all_fewer, Has, all_less, write_somes}
use Rattle.meaning.proofs.Maps.{put_other, put_same, put₂_at}
use Rattle.meaning.proofs.Inv.{Work}
use Rattle.meaning.proofs.Emit.{emit_is, emit_stepped}

-- all pending variables
abbrev pub waiting : Work → ℕ
waiting ws = sum (λ b. length (ws b)) limits.blocks

pub waiting_put : (ws : Work) (c : ℕ) (l : List (ℕ × ℕ)) → c < limits.blocks
    → waiting (put c l ws) + length (ws c) ≡ waiting ws + length l
waiting_put ws c l h = omega (
  arith,
  sum_change (λ b. length (put c l ws b)) (λ b. length (ws b)) c limits.blocks (λ b n. ap length (put_other c l ws b n)) h,
  ap length (put_same c l ws),
)

-- where k parameters are at work
pub record Load (s : Form) (k : ℕ) : Type 0 where
  pub values : s.next + 2 * waiting s.pending + 3 * lack_all s + 2 * k ≤ s.makes + 3 * zero_room limits
  pub zeros : length s.zeros + waiting s.pending + lack_all s + k ≤ zero_room limits
  pub made : s.makes ≤ limits.made

module _ (s t : Form) (up : Somes s t) (m : t.makes ≡ s.makes) where
  -- nothing new
  pub load_same : (k : ℕ) → t.next ≡ s.next → t.zeros ≡ s.zeros → t.pending ≡ s.pending → Load s k → Load t k
  load_same k n z p h =
      let w = ap waiting p in
      let f = all_fewer s t up in
      record { values = omega (arith, h.values, n, m, w, f); zeros = omega (arith, h.zeros, ap length z, w, f); made = omega (arith, h.made, m) }

  -- a new parameter for v on c
  pub load_new : (k k' v c : ℕ) → v < limits.variables → c < limits.blocks → def s v c ≡ none → Has (def t v c) → t.next ≡ suc s.next
      → t.zeros ≡ s.zeros
      → waiting t.pending + k' ≡ suc (waiting s.pending + k) → Load s k → Load t k'
  load_new k k' v c lv lc lack has n z w h =
      let f = all_less s t up v c lack has lv lc in
      record { values = omega (arith, h.values, n, m, w, f); zeros = omega (arith, h.zeros, ap length z, w, f); made = omega (arith, h.made, m) }

  -- a parameter is settled
  pub load_settle : (k : ℕ) → t.next ≤ s.next + 2 → length t.zeros ≤ suc (length s.zeros) → t.pending ≡ s.pending → Load s (suc k)
      → Load t k
  load_settle k n z p h =
      let w = ap waiting p in
      let f = all_fewer s t up in
      record { values = omega (arith, h.values, n, m, w, f); zeros = omega (arith, h.zeros, z, w, f); made = omega (arith, h.made, m) }

-- what settling adds: at most two values and a zero
pub record Added (s t : Form) : Type 0 where
  pub next : t.next ≤ s.next + 2
  pub zeros : length t.zeros ≤ suc (length s.zeros)
  pub makes : t.makes ≡ s.makes
  pub pending : t.pending ≡ s.pending

pub settle_adds : (g : Graph) (b x : ℕ) (rs : List ℕ) (s : Form) (left : List ℕ) → Added s (settle_left g b x rs s left).1
settle_adds g b x rs s [] =
    let s₁ = log_zero g.call b (place_block b s) in
    let o = step_of (s.info x).type in
    rw (emit_is o b s₁) (record {
      next = omega (arith, (emit_stepped o b s₁).few);
      zeros = omega (arith, length-append s.zeros ((g.call, b) ∷ []));
      makes = refl;
      pending = refl;
    })
settle_adds g b x rs s (y ∷ ys) = by (every (eqb y) ys)
  where
    by : (z : Bool) → Added s (cond {A = Got} z (y, alias b x y s) (x, with_args s (feed_all g b (g.preds b) rs s.args))).1
    by true = record { next = omega arith; zeros = omega arith; makes = refl; pending = refl }
    by false = record { next = omega arith; zeros = omega arith; makes = refl; pending = refl }

-- room at a moment: for what is at work
pub load_next : (s : Form) (k : ℕ) → Load s k → (s.next + 2 * k ≤ value_room limits) × (length s.zeros + k ≤ zero_room limits)
load_next s k h = (omega (arith, h.values, h.made), omega (arith, h.zeros))

-- and before a new parameter for v on c: three more values, one more zero
pub load_param : (s : Form) (k v c : ℕ) → Load s k → v < limits.variables → c < limits.blocks → def s v c ≡ none
    → (s.next + 2 * k + 3 ≤ value_room limits) × (length s.zeros + k + 1 ≤ zero_room limits)
load_param s k v c h lv lc lack =
    let f = all_less s (write v c 0 s) (write_somes s v c 0) v c lack has_it lv lc in
    (omega (arith, h.values, h.made, f), omega (arith, h.zeros, f))
  where
    has_it : Has (def (write v c 0 s) v c)
    has_it = (0, ap (λ (o : Option ℕ). or_else o (s.entry v c)) (put₂_at v c (some 0) s.own v c refl refl))
