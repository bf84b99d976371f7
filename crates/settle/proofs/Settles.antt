-- Settling step by step: what holds at each call, and that what the results say decides as the definition's `settle` does.
-- Assumes nothing.
use Prim.Native.Nat.{ℕ, suc, ◌+◌, ◌≤◌, ◌<◌}
use mathlib.Core.Path.{◌≡◌, refl, sym, ap, ◌∙◌, subst}
use mathlib.Core.Bool.{Bool, true, false, cond}
use mathlib.Core.Option.{Option, none, some}
use mathlib.Core.List.{List, [], ◌∷◌, map}
use native.Mathlib.Omega.{arith}
use native.Mathlib.Nat.{le_trans}
use lib.Dec.{eqb}
use lib.ListN.{length, drop}
use Rattle.entity.specs.declared.Value.{Value}
use Rattle.entity.specs.Limits.{limits}
use Rattle.entity.specs.Described.{type_room}
use Rattle.entity.specs.Types.{step_of, type_count}
use Rattle.entity.proofs.Laws.{step_plain}
use Rattle.definition.specs.Base.{every, without}
use Rattle.definition.specs.Form.{Graph, Form, nought, with_args}
use Rattle.definition.specs.Read.{Got, resolve, settle, settle_left, feed_all, set_params, alias, make, log_zero, place_block, emit_step, emit_zero}
use Rattle.meaning.specs.Path.{In}
use Rattle.meaning.specs.Machine.{Task}
use Rattle.layout.specs.declared.Counts.{Counts}
use Rattle.layout.specs.Counts.{more, with_values, results_less}
use Rattle.layout.specs.Layout.{Shows, Stacks}
use Rattle.layout.proofs.Stacks.{stacks_drop}
use Rattle.graph.specs.Seen.{Seen}
use Rattle.form.specs.Can.{Cells, CanMake, CanLog, CanPlace, HasValue, HasParams}
use Rattle.work.specs.Work.{CanTake, lasts}
use Rattle.settle.specs.declared.Agreement.{Agreement}
use Rattle.settle.specs.Settle.{CanAgree, CanEmit, CanZero, Zeroed, CanAlias, CanFeedAll, CanSettle, Settled}
use Rattle.settle.specs.Settle.{value, judge, zeroed}

-- ---- a zero

-- a first step has room in a cell
pub step_fits : (n t : ℕ) → some t ≡ step_of n → t < type_room
step_fits n t e = le_trans (step_plain n t (sym e)).known (omega arith)

pub step_counts : (c d : Counts) → d ≡ more c → d ≡ with_values d.values c
step_counts c d e = e ∙ ap (λ (k : Counts). with_values k.values c) (sym e)

module _ (fl : List ℕ) (c : Counts) (b : ℕ) (s : Form) (h : CanEmit fl c b s) where
  pub step_make : CanMake fl c s
  step_make = record {
    shows = h.shows;
    room = omega (arith, h.room);
    fresh = h.fresh s.next (omega arith);
    unrecorded = h.unrecorded s.next (omega arith);
  }

  pub step_made : (ty t : ℕ) (fl₁ : List ℕ) (d : Counts) → some t ≡ step_of ty → d ≡ more c
      → ((s : Form) → CanMake fl c s → Shows fl₁ (more c) (make nought t b s))
      → Shows fl₁ d (emit_step (step_of ty) b s)
  step_made ty t fl₁ d e k M = rw (sym e, k) (M s step_make)

  -- after it there is room for the zero
  pub whole_make : (o : Option ℕ) (fl₁ : List ℕ) (d : Counts) → Shows fl₁ d (emit_step o b s) → CanMake fl₁ d (emit_step o b s)
  whole_make none fl₁ d q = record {
    shows = q;
    room = omega (arith, h.room);
    fresh = h.fresh s.next (omega arith);
    unrecorded = h.unrecorded s.next (omega arith);
  }
  whole_make (some t) fl₁ d q = record {
    shows = q;
    room = omega (arith, h.room);
    fresh = h.fresh (suc s.next) (omega arith);
    unrecorded = h.unrecorded (suc s.next) (omega arith);
  }

module _ (fl : List ℕ) (c : Counts) (x b : ℕ) (s : Form) (h : CanZero fl c x b s) where
  pub zero_type : HasValue fl x s
  zero_type = record { cells = h.emit.shows.cells; there = h.there; room = omega (arith, h.emit.room) }

  pub zero_place : CanPlace fl b s
  zero_place = record { placed = record { cells = h.emit.shows.cells; few = h.placed }; row = h.place }

  module _ (fl₁ : List ℕ) (P : (s : Form) → CanPlace fl b s → Cells fl₁ (place_block b s)) where
    pub zero_log : CanLog fl₁ (place_block b s)
    zero_log = record { cells = P s zero_place; row = h.log }

    module _ (fl₂ : List ℕ) (L : (s : Form) → CanLog fl₁ s → Cells fl₂ (log_zero c.call b s)) where
      abbrev logged : Form
      logged = log_zero c.call b (place_block b s)

      pub zero_emit : CanEmit fl₂ c b (log_zero c.call b (place_block b s))
      zero_emit = record {
        shows = record { cells = L (place_block b s) zero_log; next = h.emit.shows.next };
        known = h.emit.known;
        room = h.emit.room;
        fresh = h.emit.fresh;
        unrecorded = h.emit.unrecorded;
      }

      module _ (fl₃ : List ℕ) (ty : ℕ) (d : Counts)
          (D : (d ≡ with_values d.values c) × ((s : Form) → CanEmit fl₂ c b s → Shows fl₃ d (emit_step (step_of ty) b s))) where
        pub zero_make : CanMake fl₃ d (emit_step (step_of ty) b (log_zero c.call b (place_block b s)))
        zero_make = whole_make fl₂ c b logged zero_emit (step_of ty) fl₃ d (D.1 logged zero_emit)

        pub zero_made : (fl₄ : List ℕ) (e : Counts) → ((s : Form) → HasValue fl x s → (s.info x).type < type_count → ty ≡ (s.info x).type)
            → (e ≡ more d) × ((s : Form) → CanMake fl₃ d s → Shows fl₄ (more d) (make nought ty b s))
            → Zeroed fl₄ c (value d.values, e) x b s
        zero_made fl₄ e T M =
            let is : ty ≡ (s.info x).type = T s zero_type h.typed in
            record {
              val = (D.1 logged zero_emit).next ∙ ap (λ (t : ℕ). (emit_step (step_of t) b logged).next) is;
              counts = M.0 ∙ ap more D.0 ∙ ap (λ (k : Counts). with_values k.values c) (sym (M.0 ∙ ap more D.0));
              shows = rw M.0 (subst (λ (t : ℕ). Shows fl₄ (more d) (emit_zero t b logged).1) is (M.1 _ zero_make));
            }

-- a zero's values are one or two; no parameter comes or goes with them
record Emitted (s t : Form) : Type 0 where
  more_values : s.next ≤ t.next
  few_values : t.next ≤ s.next + 2
  params : t.params ≡ s.params

emitted : (o : Option ℕ) (ty b : ℕ) (s : Form) → Emitted s (make nought ty b (emit_step o b s))
emitted none ty b s = record { more_values = omega arith; few_values = omega arith; params = refl }
emitted (some t) ty b s = record { more_values = omega arith; few_values = omega arith; params = refl }

-- ---- another name

module _ (fl : List ℕ) (x b : ℕ) (s : Form) (h : CanAlias fl x b s) (fl₁ : List ℕ) (R : (s : Form) → HasParams fl b s → Cells fl₁ (set_params b (without x (s.params b)) s)) where
  pub alias_value : HasValue fl₁ x (set_params b (without x (s.params b)) s)
  alias_value = record { cells = R s h.params; there = h.val.there; room = h.val.room }

-- ---- what the results say decides

outcome : Graph → ℕ → ℕ → List ℕ → Form → Agreement → Got
outcome g b x rs s Agreement.Nothing = let z = zeroed g.call x b s in (z.0, alias b x z.0 z.1)
outcome g b x rs s (Agreement.One y) = (y.0, alias b x y.0 s)
outcome g b x rs s Agreement.Many = (x, with_args s (feed_all g b (g.preds b) rs s.args))

judged : (g : Graph) (b x : ℕ) (rs : List ℕ) (s : Form) (left : List ℕ) → settle_left g b x rs s left ≡ outcome g b x rs s (judge left)
unfolding outcome
judged g b x rs s [] = refl
judged g b x rs s (y ∷ ys) = by (every (eqb y) ys)
  where
    by : (z : Bool) → cond {A = Got} z (y, alias b x y s) (x, with_args s (feed_all g b (g.preds b) rs s.args)) ≡ outcome g b x rs s (cond z (Agreement.One (value y)) Agreement.Many)
    by true = refl
    by false = refl

module _ (gl fl wl : List ℕ) (c : Counts) (x b : ℕ) (g : Graph) (s : Form) (ts : List Task) (rs : List ℕ) (h : CanSettle gl fl wl c x b g s ts rs) where
  pub block_known : b < limits.blocks
  block_known = omega (arith, h.settles.known, h.seen.bounds.few)

  module _ (n : ℕ) (N : (g : Graph) → Seen gl g → n ≡ length (g.preds b)) where
    count : n ≡ length (g.preds b)
    count = N g h.seen

    pub results_there : CanTake wl c n ts rs
    results_there = record { stacks = h.stacks; enough = omega (arith, count, h.settles.enough); height = h.settles.height }

    pub can_agree : CanAgree fl wl c n s ts rs
    can_agree = record {
      shows = h.shows;
      results = results_there;
      few = omega (arith, h.settles.room);
      chains = λ r i. h.settles.chains r (h.settles.low r (subst (λ (m : ℕ). In r (lasts m rs)) count i));
    }

  pub can_zero : CanZero fl c x b s
  can_zero = record {
    emit = record { shows = h.shows; known = block_known; room = h.settles.room; fresh = h.settles.fresh; unrecorded = h.settles.unrecorded };
    there = h.settles.there;
    typed = h.settles.typed;
    log = h.settles.zeros;
    placed = h.settles.placed;
    place = h.settles.place;
  }

  pub can_alias : CanAlias fl x b s
  can_alias = record {
    val = record { cells = h.shows.cells; there = h.settles.there; room = omega (arith, h.settles.room) };
    params = record { cells = h.shows.cells; known = block_known; few = h.settles.params };
  }

  module _ (l : List ℕ) (r : Value × Counts) (Z : (s : Form) → CanZero fl c x b s → Zeroed l c r x b s) where
    pub can_alias_zero : CanAlias l x b (zeroed c.call x b s).1
    can_alias_zero =
        let cells = (Z s can_zero).shows.cells in
        let ty = (s.info x).type in
        let e = emitted (step_of ty) ty b (log_zero c.call b (place_block b s)) in
        record {
          val = record { cells = cells; there = le_trans h.settles.there e.more_values; room = le_trans e.few_values h.settles.room };
          params = record { cells = cells; known = block_known; few = rw e.params h.settles.params };
        }

  pub can_feed_all : CanFeedAll gl fl wl c b g s ts rs
  can_feed_all = record {
    seen = h.seen;
    cells = h.shows.cells;
    known = block_known;
    results = record { stacks = h.stacks; enough = h.settles.enough; height = h.settles.height };
    rows = h.settles.args;
  }

  module _ (n : ℕ) (N : (g : Graph) → Seen gl g → n ≡ length (g.preds b)) (a : Agreement)
      (J : (s : Form) (ts : List Task) (rs : List ℕ) → CanAgree fl wl c n s ts rs → a ≡ judge (without x (map (resolve s) (lasts n rs)))) where
    abbrev results : List ℕ
    results = lasts (length (g.preds b)) rs

    decided : settle g b x results s ≡ outcome g b x results s a
    decided =
        judged g b x results s (without x (map (resolve s) results))
        ∙ ap (outcome g b x results s) (sym (J s ts rs (can_agree n N) ∙ ap (λ (m : ℕ). judge (without x (map (resolve s) (lasts m rs)))) (count n N)))

    settled : (q : Got) → outcome g b x results s a ≡ q → (fl₁ : List ℕ) (d : Counts) → d.call ≡ c.call → (r : Value × Counts) → r.0.0 ≡ q.0 → r.1 ≡ results_less n d
        → Shows fl₁ d q.1 → Stacks wl d ts rs → Settled fl₁ wl c.call r x b g s ts rs
    settled q e fl₁ d k r v f shows stacks =
        let is : settle g b x results s ≡ q = decided ∙ e in
        record {
          call = ap (λ (i : Counts). i.call) f ∙ k;
          val = v ∙ ap (λ (i : Got). i.0) (sym is);
          shown = rw (is, f) record {
            form = record { cells = shows.cells; next = shows.next };
            work = subst (λ (m : ℕ). Stacks wl (results_less n d) ts (drop m rs)) (count n N) (stacks_drop wl d ts rs stacks n);
          };
        }

    pub settled_zero : a ≡ Agreement.Nothing → (fl₁ fl₂ : List ℕ) (z r : Value × Counts) → ((s : Form) → CanZero fl c x b s → Zeroed fl₁ c z x b s)
        → ((s : Form) → CanAlias fl₁ x b s → Cells fl₂ (alias b x z.0.0 s)) → r.0 ≡ z.0 → r.1 ≡ results_less n z.1
        → Settled fl₂ wl c.call r x b g s ts rs
    unfolding outcome
    settled_zero e fl₁ fl₂ z r Z A v D =
        let k = Z s can_zero in
        settled (outcome g b x results s Agreement.Nothing) (ap (outcome g b x results s) e) fl₂ z.1 (ap (λ (i : Counts). i.call) k.counts) r
        (ap (λ (i : Value). i.0) v ∙ k.val ∙ ap (λ (m : ℕ). (zeroed m x b s).0) h.call) D
        record {
          cells = subst (λ (m : ℕ). Cells fl₂ (alias b x (zeroed m x b s).0 (zeroed m x b s).1)) h.call
              (subst (λ (y : ℕ). Cells fl₂ (alias b x y (zeroed c.call x b s).1)) k.val (A (zeroed c.call x b s).1 (can_alias_zero fl₁ z Z)));
          next = k.shows.next ∙ ap (λ (m : ℕ). (zeroed m x b s).1.next) h.call;
        } record {
          cells = h.stacks.cells;
          calls = ap (λ (i : Counts). i.calls) k.counts ∙ h.stacks.calls;
          results = ap (λ (i : Counts). i.results) k.counts ∙ h.stacks.results;
        }

    pub settled_one : (y : Value) → a ≡ Agreement.One y → (fl₁ : List ℕ) (r : Value × Counts) → r.0.0 ≡ y.0
        → ((s : Form) → CanAlias fl x b s → Cells fl₁ (alias b x y.0 s)) → r.1 ≡ results_less n c → Settled fl₁ wl c.call r x b g s ts rs
    unfolding outcome
    settled_one y e fl₁ r v A D =
        settled (y.0, alias b x y.0 s) (ap (outcome g b x results s) e) fl₁ c refl r v D record { cells = A s can_alias; next = h.shows.next } h.stacks

    pub settled_many : a ≡ Agreement.Many → (fl₁ : List ℕ) (r : Value × Counts) → r.0.0 ≡ x
        → ((g : Graph) (s : Form) (ts : List Task) (rs : List ℕ) → CanFeedAll gl fl wl c b g s ts rs
        → Cells fl₁ (with_args s (feed_all g b (g.preds b) (lasts (length (g.preds b)) rs) s.args))) → r.1 ≡ results_less n c → Settled fl₁ wl c.call r x b g s ts rs
    unfolding outcome
    settled_many e fl₁ r v A D =
        settled (x, with_args s (feed_all g b (g.preds b) results s.args)) (ap (outcome g b x results s) e) fl₁ c refl r v D
        record { cells = A g s ts rs can_feed_all; next = h.shows.next } h.stacks
