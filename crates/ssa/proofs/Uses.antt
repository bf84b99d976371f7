-- A use, and settling a parameter that waited, are runs of the machine, which end with the recursion's answer. A use that finds a definition in its own
-- block is answered by it.
-- Assumes nothing.
use Prim.Native.Nat.{ℕ, suc, ◌<◌}
use mathlib.Core.Path.{◌≡◌, refl, sym, ap, ◌∙◌, subst}
use mathlib.Core.Option.{some}
use mathlib.Core.List.{List, [], ◌∷◌}
use native.Mathlib.Nat.{le_trans}
use native.Mathlib.Omega.{arith}
use lib.ListN.{length}
use Rattle.entity.specs.declared.Branch.{Branch}
use Rattle.entity.specs.declared.Value.{Value}
use Rattle.entity.specs.Limits.{limits}
use Rattle.definition.specs.Base.{put}
use Rattle.definition.specs.Form.{Graph, Form}
use Rattle.definition.specs.Read.{type_of, fill, read, depth}
use Rattle.meaning.specs.Machine.{Task, look, conf, schedule}
use Rattle.meaning.proofs.Load.{load_next}
use Rattle.meaning.proofs.Machine.{does, fills}
use Rattle.meaning.proofs.Rest.{at_head}
use Rattle.meaning.proofs.Rooms.{Moment, moment_turn, use_moment, seal_moment}
use Rattle.meaning.proofs.Sealing.{idle, shallow}
use Rattle.meaning.proofs.Steady.{Steady, steady_use}
use Rattle.layout.specs.declared.Counts.{Counts}
use Rattle.layout.specs.Counts.{with_values, one_call}
use Rattle.layout.specs.Layout.{Graphs, Stacks, Shown}
use Rattle.graph.specs.Seen.{Seen}
use Rattle.graph.proofs.Cells.{preds_few}
use Rattle.work.specs.Work.{CanCall}
use Rattle.lookup.specs.Find.{CanBegin}
use Rattle.ssa.specs.Run.{CanRun, Ran}
use Rattle.ssa.specs.Use.{AtRest, CanRead, HasRead, CanFill, HasFilled}
use Rattle.ssa.proofs.Asks.{asks_at, first_asks}

pub seen_of : {gl : List ℕ} {c : Counts} {g : Graph} {s : Form} → Graphs gl c g → Steady g s → Seen gl g
seen_of e h = record { cells = e.cells; bounds = h.bounds; sound = h.sound }

-- a run leaves the heights as it found them
rested : {fl wl wl₁ : List ℕ} {c : Counts} {n : ℕ} {f : Value × Counts} {x : ℕ} {s : Form} → Stacks wl c [] [] → Ran fl wl₁ n f x s → Shown fl wl₁ (with_values f.1.values c) (conf [] [] s)
rested k a = record {
  form = record { cells = a.shown.form.cells; next = a.shown.form.next };
  work = record { cells = a.shown.work.cells; calls = k.calls; results = k.results };
}

-- ---- a use

module _ {gl fl wl : List ℕ} {c : Counts} {v b : ℕ} {g : Graph} {s : Form} (h : CanRead gl fl wl c v b g s) where
  pub read_seen : Seen gl g
  read_seen = seen_of h.rest.graph h.rest.steady

  -- the first visit can be scheduled
  pub first_can : CanCall wl c [] []
  first_can = record { stacks = h.rest.shown.work; room = omega arith }

  module _ {ty : ℕ} (e : (g : Graph) → Seen gl g → ty ≡ type_of g v) {p : Branch} (branch_is : p.0 ≡ b) {wl₁ : List ℕ} {d : Counts}
      (P : (d ≡ one_call c) × ((ts : List Task) → (rs : List ℕ) → CanCall wl c ts rs → Stacks wl₁ (one_call c) (look p.0 ∷ ts) rs)) where
    pub use_run : CanRun gl fl wl₁ d v ty g (conf (look b ∷ []) [] s) (read (depth g) g v b s).0 (read (depth g) g v b s).1
    use_run = record {
      under = record {
        seen = read_seen;
        call = ap (λ (k : Counts). k.call) P.0 ∙ h.rest.graph.call;
        shown = subst (λ (k : Counts). Shown fl wl₁ k (conf (look b ∷ []) [] s)) (sym P.0)
            (record { form = record { cells = h.rest.shown.form.cells; next = h.rest.shown.form.next }; work = subst (λ (n : ℕ). Stacks wl₁ (one_call c) (look n ∷ []) []) branch_is (P.1 [] [] first_can) });
        var = h.var;
        type = e g read_seen;
        low = (h.known, tt);
        few = omega arith;
        asks = (h.known, first_asks g s h.rest.steady v h.var);
        others = idle;
        number = 0;
        after = use_moment g h.rest.steady.sound h.rest.steady.bounds v h.var b s h.known h.rest.steady.rest;
      };
      goal = does g h.rest.steady.sound v (depth g) b s h.known (shallow v s g) [] [];
    }

    pub has_read : {fl₁ wl₂ : List ℕ} {f : Value × Counts} → Ran fl₁ wl₂ d.call f (read (depth g) g v b s).0 (read (depth g) g v b s).1
        → (r : Value × Counts) → r.0.0 ≡ f.0.0 → r.1 ≡ with_values f.1.values c → HasRead gl fl₁ wl₂ r v b g s
    has_read {fl₁} {wl₂} a r ev ec = record {
      val = ev ∙ a.val;
      rest = subst (λ (k : Counts). AtRest gl fl₁ wl₂ k g (read (depth g) g v b s).1) (sym ec) (record {
        graph = record { cells = h.rest.graph.cells; call = h.rest.graph.call };
        shown = rested h.rest.shown.work a;
        steady = steady_use g s h.rest.steady v h.var b h.known;
      });
    }

-- ---- a parameter that waited

module _ {gl fl wl : List ℕ} {c : Counts} {v x b : ℕ} {g : Graph} {s : Form} (h : CanFill gl fl wl c v x b g s) where
  waits : s.entry v b ≡ some x
  waits = at_head g h.seen.sound h.seen.bounds b h.sealed (v, x) h.others (suc (length h.others)) s h.rest

  fill_var : v < length g.types
  fill_var = (h.rest.inv.known v b x waits).0

  pub type_can : v < limits.variables
  type_can = le_trans fill_var h.seen.bounds.vars

  pub begin_can : CanBegin gl wl c x b g [] []
  begin_can = record {
    seen = h.seen;
    stacks = h.shown.work;
    known = le_trans (h.seen.bounds.shut b h.sealed) h.seen.bounds.few;
    small = omega (arith, h.rest.ranged.recorded.entries v b x waits, (load_next s (suc (length h.others)) h.rest.load).0);
    room = omega (arith, preds_few h.seen b);
  }

  start : Moment g v (put b h.others idle) (length h.others) (conf (schedule g x b []) [] s)
  start = seal_moment g h.seen.sound h.seen.bounds b h.sealed (v, x) h.others s h.rest

  module _ {ty : ℕ} (e : (g : Graph) → Seen gl g → ty ≡ type_of g v) {wl₁ : List ℕ} {d : Counts}
      (S : (d.values ≡ c.values) × (d.call ≡ c.call) × ((g : Graph) → (ts : List Task) → (rs : List ℕ) → CanBegin gl wl c x b g ts rs → Stacks wl₁ d (schedule g x b ts) rs)) where
    pub fill_run : CanRun gl fl wl₁ d v ty g (conf (schedule g x b []) [] s) (fill (read (depth g) g v) g b x s).0 (fill (read (depth g) g v) g b x s).1
    fill_run = record {
      under = record {
        seen = h.seen;
        call = S.1 ∙ h.call;
        shown = record { form = record { cells = h.shown.form.cells; next = S.0 ∙ h.shown.form.next }; work = S.2 g [] [] begin_can };
        var = fill_var;
        type = e g h.seen;
        low = start.within.low;
        few = start.tasks;
        asks = asks_at g h.seen.sound h.seen.bounds v fill_var (put b h.others idle) (length h.others) (schedule g x b []) [] s start;
        others = put b h.others idle;
        number = length h.others;
        after = moment_turn g h.seen.sound h.seen.bounds v fill_var (put b h.others idle) (length h.others) (conf (schedule g x b []) [] s) 1 start;
      };
      goal = fills g h.seen.sound v (depth g) b x s (shallow v s g) [] [];
    }

    pub has_filled : {fl₁ wl₂ : List ℕ} {f : Value × Counts} → Ran fl₁ wl₂ d.call f (fill (read (depth g) g v) g b x s).0 (fill (read (depth g) g v) g b x s).1
        → {r : Counts} → r ≡ with_values f.1.values c → HasFilled fl₁ wl₂ c.call r v x b g s
    has_filled {fl₁} {wl₂} a ec =
        subst (λ (k : Counts). HasFilled fl₁ wl₂ c.call k v x b g s) (sym ec) (record { call = refl; shown = rested h.shown.work a })
