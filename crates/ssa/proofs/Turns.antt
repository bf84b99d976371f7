-- One turn over the cells is one turn of the machine: the call on top tells which of the two kinds it is, and what that kind asks is there.
-- Assumes nothing.
use Prim.Native.Nat.{ℕ, ◌≤◌}
use mathlib.Core.Path.{◌≡◌, sym, ap, ◌∙◌, subst}
use mathlib.Core.List.{List, ◌∷◌}
use lib.ListN.{length, drop}
use Rattle.entity.specs.Limits.{limits, result_room}
use Rattle.entity.specs.declared.Block.{Block}
use Rattle.entity.specs.declared.Branch.{Branch}
use Rattle.entity.specs.declared.Value.{Value}
use Rattle.definition.specs.Form.{Graph, Form}
use Rattle.definition.specs.Read.{settle}
use Rattle.meaning.specs.Machine.{Task, look, conf, turn}
use Rattle.meaning.proofs.Rooms.{moment_turn}
use Rattle.layout.specs.declared.Call.{Call}
use Rattle.layout.specs.declared.Counts.{Counts}
use Rattle.layout.specs.Counts.{task, call_less, one_result}
use Rattle.layout.specs.Layout.{Shows, Stacks, Shown}
use Rattle.work.specs.Work.{CanPop, CanAnswer, lasts}
use Rattle.lookup.specs.Find.{CanUse, Visits}
use Rattle.settle.specs.Settle.{CanSettle, Settled}
use Rattle.ssa.specs.Run.{Asks, UnderWay}
use Rattle.ssa.proofs.Asks.{asks_at}

module _ {gl fl wl : List ℕ} {c : Counts} {v ty : ℕ} {g : Graph} {q : Task} {ts : List Task} {rs : List ℕ} {s : Form}
    (h : UnderWay gl fl wl c v ty g (conf (q ∷ ts) rs s)) where
  pub pop_can : CanPop wl c q ts rs
  pop_can = record { stacks = h.shown.work; room = h.few }

  -- the next configuration, once it is shown
  next : (fl₁ wl₁ : List ℕ) (r : Counts) → r.call ≡ c.call → Shown fl₁ wl₁ r (turn g v (q ∷ ts) rs s) → UnderWay gl fl₁ wl₁ r v ty g (turn g v (q ∷ ts) rs s)
  next fl₁ wl₁ r e z =
      let k = turn g v (q ∷ ts) rs s in
      record {
        seen = h.seen;
        call = e ∙ h.call;
        shown = z;
        var = h.var;
        type = h.type;
        low = h.after.within.low;
        few = h.after.tasks;
        asks = asks_at g h.seen.sound h.seen.bounds v h.var h.others h.number k.tasks k.results k.form h.after;
        others = h.others;
        number = h.number;
        after = moment_turn g h.seen.sound h.seen.bounds v h.var h.others h.number k 1 h.after;
      }

  module _ (a : Call) {d : Counts}
      (P : (d ≡ call_less c) × ((q : Task) → (ts : List Task) → (rs : List ℕ) → CanPop wl c q ts rs → ((task a ≡ q) × Stacks wl (call_less c) ts rs))) where
    shows_then : Shows fl d s
    shows_then = record { cells = h.shown.form.cells; next = ap (λ (k : Counts). k.values) P.0 ∙ h.shown.form.next }

    call_then : d.call ≡ c.call
    call_then = ap (λ (k : Counts). k.call) P.0

    stacks_then : Stacks wl d ts rs
    stacks_then = subst (λ (k : Counts). Stacks wl k ts rs) (sym P.0) (P.1 q ts rs pop_can).1

    asks_of : {t : Task} → task a ≡ t → Asks g v (t ∷ ts) rs s
    asks_of e = subst (λ (t : Task). Asks g v (t ∷ ts) rs s) (sym (P.1 q ts rs pop_can).0 ∙ e) h.asks

    turn_of : {t : Task} {fl₁ wl₂ : List ℕ} {r : Counts} → task a ≡ t → Shown fl₁ wl₂ r (turn g v (t ∷ ts) rs s) → Shown fl₁ wl₂ r (turn g v (q ∷ ts) rs s)
    turn_of {fl₁ = fl₁} {wl₂ = wl₂} {r = r} e z = subst (λ (t : Task). Shown fl₁ wl₂ r (turn g v (t ∷ ts) rs s)) (sym e ∙ (P.1 q ts rs pop_can).0) z

    -- a visit
    module _ {p : Branch} (e : a ≡ Call.UseVar p) {b : Block} (block_is : b.0 ≡ p.0) where
      pub use_can : CanUse gl fl wl d v ty b.0 g s ts rs
      use_can =
          let k = asks_of (ap task e) in
          record { seen = h.seen; call = call_then ∙ h.call; shows = shows_then; stacks = stacks_then; var = h.var; type = h.type; known = rw block_is k.0; ready = k.1 }

      pub turned_look : (fl₁ wl₂ : List ℕ) (r : Counts)
          → ((g : Graph) → (s : Form) → (ts : List Task) → (rs : List ℕ) → CanUse gl fl wl d v ty b.0 g s ts rs → Visits fl₁ wl₂ d.call r v b.0 g s ts rs)
          → UnderWay gl fl₁ wl₂ r v ty g (turn g v (q ∷ ts) rs s)
      turned_look fl₁ wl₂ r U =
          let w = U g s ts rs use_can in
          next fl₁ wl₂ r (w.call ∙ call_then) (turn_of (ap task e) (subst (λ (n : ℕ). Shown fl₁ wl₂ r (turn g v (look n ∷ ts) rs s)) block_is w.shown))

    -- settling
    module _ {x : Value} {b : Block} (e : a ≡ Call.FinishPredecessorsLookup x b) where
      pub settle_can : CanSettle gl fl wl d x.0 b.0 g s ts rs
      settle_can = record {
        seen = h.seen;
        call = call_then ∙ h.call;
        shows = shows_then;
        stacks = stacks_then;
        settles = asks_of (ap task e);
      }

      module _ {fl₁ : List ℕ} {f : Value × Counts}
          (F : (g : Graph) → (s : Form) → (ts : List Task) → (rs : List ℕ) → CanSettle gl fl wl d x.0 b.0 g s ts rs → Settled fl₁ wl d.call f x.0 b.0 g s ts rs) where
        pub answer_can : CanAnswer wl f.1 ts (drop (length (g.preds b.0)) rs)
        answer_can =
            let m = subst (λ (t : Task). length (turn g v (t ∷ ts) rs s).results ≤ result_room limits) (sym (P.1 q ts rs pop_can).0 ∙ ap task e) h.after.results in
            record { stacks = (F g s ts rs settle_can).shown.work; room = m }

        pub turned_finish : (wl₃ : List ℕ) (r : Counts)
            → (r ≡ one_result f.1) × ((ts : List Task) → (rs : List ℕ) → CanAnswer wl f.1 ts rs → Stacks wl₃ (one_result f.1) ts (f.0.0 ∷ rs))
            → UnderWay gl fl₁ wl₃ r v ty g (turn g v (q ∷ ts) rs s)
        turned_finish wl₃ r R =
            let w = F g s ts rs settle_can in
            let n = length (g.preds b.0) in
            let t = settle g b.0 x.0 (lasts n rs) s in
            next fl₁ wl₃ r (ap (λ (k : Counts). k.call) R.0 ∙ w.call ∙ call_then) (turn_of (ap task e) (
            subst (λ (k : Counts). Shown fl₁ wl₃ k (conf ts (t.0 ∷ drop n rs) t.1)) (sym R.0) (record {
              form = record { cells = w.shown.form.cells; next = w.shown.form.next };
              work = subst (λ (y : ℕ). Stacks wl₃ (one_result f.1) ts (y ∷ drop n rs)) w.val (R.1 ts (drop n rs) answer_can);
            })))
