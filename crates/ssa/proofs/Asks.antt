-- What a turn asks of the lent cells is there at every moment of a run, and at the first visit of a use: the definition's own bounds say so.
-- Assumes nothing.
use Prim.Native.Nat.{ℕ, suc, ◌+◌, ◌<◌, ◌≤◌}
use mathlib.Core.Path.{◌≡◌, refl, ap}
use mathlib.Core.Logic.{inl, inr}
use mathlib.Core.Bool.{false}
use mathlib.Core.Option.{none, some}
use mathlib.Core.List.{List, [], ◌∷◌}
use native.Mathlib.Nat.{le_trans}
use native.Mathlib.Omega.{arith}
use lib.ListN.{length, take}
use Rattle.entity.specs.Limits.{limits, call_room, result_room, pred_room}
use Rattle.definition.specs.Base.{has}
use Rattle.definition.specs.Form.{Graph, Form, def}
use Rattle.meaning.specs.Machine.{Task, look, finish, conf}
use Rattle.meaning.specs.Path.{In}
use Rattle.meaning.specs.Stored.{Stored}
use Rattle.meaning.proofs.Chains.{chains_end_now}
use Rattle.meaning.proofs.Heights.{calls_left}
use Rattle.meaning.proofs.Keeping.{dest_is}
use Rattle.meaning.proofs.Lacking.{weight}
use Rattle.meaning.proofs.Lists.{take_in, reverse_in, has_in}
use Rattle.meaning.proofs.Load.{load_next, load_param}
use Rattle.meaning.proofs.Maps.{false_true, or_none}
use Rattle.meaning.proofs.Mid.{Rest, at_work, finishes}
use Rattle.meaning.proofs.Port.{finish_room}
use Rattle.meaning.proofs.Ranges.{Bounds, def_below}
use Rattle.meaning.proofs.Reading.{Sound}
use Rattle.meaning.proofs.Rooms.{Moment, waits_room, new_built_room, new_param_room, preds_room}
use Rattle.meaning.proofs.Sealing.{idle}
use Rattle.meaning.proofs.Steady.{Steady}
use Rattle.meaning.proofs.Stored.{stored_now}
use Rattle.meaning.proofs.Sums.{sum_more, pigeon}
use Rattle.lookup.specs.Find.{Open, Ready}
use Rattle.settle.specs.Settle.{Settles}
use Rattle.ssa.specs.Run.{Asks}

module _ (g : Graph) (G : Sound g) (B : Bounds g) (v : ℕ) (lv : v < length g.types) (ts : List Task) (rs : List ℕ) (s : Form) where
  -- a visit, where k parameters are to be settled
  ready : (op : ℕ → List (ℕ × ℕ)) (k : ℕ) → Rest g op k s
      → ((d : ℕ) → d < g.blocks → def s v d ≡ none → length (g.preds d) + length ts < call_room limits) → length rs < result_room limits → Ready g v s ts rs
  ready op k r calls results = record {
    opens = opens;
    results = results;
    fresh = r.inv.aliased.fresh s.next (omega arith);
    unrecorded = r.ranged.unrecorded s.next (omega arith);
    few = omega (arith, load_next s k r.load);
    defs = def_below g s r.ranged;
  }
    where
      opens : (d : ℕ) → d < g.blocks → def s v d ≡ none → Open g s ts d
      opens d ld lack =
          let a = load_param s k v d r.load (le_trans lv B.vars) (le_trans ld B.few) lack in
          let free = (or_none (s.own v d) (s.entry v d) lack).1 in
          let q = new_param_room g op k s r v d lv free in
          let u = new_built_room g op k s r v d lv free in
          let w = waits_room g op k s r d in
          record { next = omega (arith, a.0); params = omega (arith, q, B.vars); waits = omega (arith, w, u, B.vars); calls = calls d ld lack }

  -- the calls of a block without a definition can still be scheduled
  calls_weigh : (d : ℕ) → d < g.blocks → def s v d ≡ none → suc (length (g.preds d)) ≤ calls_left g v s
  calls_weigh d ld lack =
      let one = sum_more (suc (length (g.preds d))) (λ i. 0) (λ b. weight (suc (length (g.preds b))) (def s v b)) d g.blocks
      (λ i. omega arith) (omega (arith, ap (weight (suc (length (g.preds d)))) lack)) ld in
      omega (arith, one)

  module _ (others : ℕ → List (ℕ × ℕ)) (k : ℕ) where
    look_asks : (p : ℕ) → Moment g v others k (conf (look p ∷ ts) rs s) → (p < g.blocks) × Ready g v s ts rs
    look_asks p m =
        let h = m.now.0 in (
          h.sane.0,
          ready (at_work v ts others) (finishes ts k) h.rest
              (λ d ld lack. omega (arith, m.within.calls, calls_weigh d ld lack)) (omega (arith, m.within.both)),
        )

    finish_asks : (x b : ℕ) → Moment g v others k (conf (finish x b ∷ ts) rs s) → Settles g x b s rs
    finish_asks x b m =
        let r = finish_room g G B v lv others k rs s x b ts m in
        let t = stored_now g G B v others k (conf (finish x b ∷ ts) rs s) m in
        record {
          known = r.block;
          there = r.value;
          typed = (t.info x r.value).1;
          room = r.next;
          fresh = t.unused;
          unrecorded = t.unrecorded;
          targets = t.targets;
          chains = chains_end_now g v others k (conf (finish x b ∷ ts) rs s) m;
          enough = r.taken;
          height = m.results;
          low = λ y i. m.now.1 y (take_in (length (g.preds b)) rs y (reverse_in (take (length (g.preds b)) rs) y i));
          zeros = r.zeros;
          placed = m.rooms.placed;
          place = λ e. place t r.block e;
          params = m.rooms.params b;
          args = λ p ip i d. let e = dest_is (g.dests p) i b d in r.args p i ip e.0 e.1;
        }
      where
        -- with b the blocks placed are still blocks, each once
        place : Stored g s → b < g.blocks → has b s.placed ≡ false → length s.placed < pred_room limits
        place t lb e = le_trans (pigeon some g.blocks (b ∷ s.placed) (λ i. false_true e (has_in b s.placed i), t.once) within) B.few
          where
            within : (c : ℕ) → In c (b ∷ s.placed) → (i : ℕ) × (i < g.blocks) × (some i ≡ some c)
            within c (inl q) = (c, omega (arith, lb, q), refl)
            within c (inr i) = (c, t.placed c i, refl)

-- what the call on top asks
pub asks_at : (g : Graph) → Sound g → Bounds g → (v : ℕ) → v < length g.types → (others : ℕ → List (ℕ × ℕ)) (k : ℕ) (ts : List Task) (rs : List ℕ) (s : Form)
    → Moment g v others k (conf ts rs s) → Asks g v ts rs s
asks_at g G B v lv others k [] rs s m = tt
asks_at g G B v lv others k (look p ∷ ts) rs s m = look_asks g G B v lv ts rs s others k p m
asks_at g G B v lv others k (finish x b ∷ ts) rs s m = finish_asks g G B v lv ts rs s others k x b m

-- the first visit of a use, which comes before its run's moments
pub first_asks : (g : Graph) (s : Form) → Steady g s → (v : ℕ) → v < length g.types → Ready g v s [] []
first_asks g s h v lv = ready g h.sound h.bounds v lv [] [] s idle 0 h.rest
    (λ d _ _. omega (arith, preds_room g h.sound d, h.bounds.few)) (omega arith)
