-- The machine's loop: the cells always show a configuration on the way to the run's end, and what is scheduled or could still be falls with each turn,
-- read off the cells. With nothing scheduled the configuration is the end, and the one result left is its answer.
-- Assumes nothing.
use Prim.Native.Nat.{ℕ, suc, ◌+◌, ◌*◌, ◌<◌, ◌≤◌}
use mathlib.Core.Path.{◌≡◌, refl, sym, ap, ◌∙◌, subst}
use mathlib.Core.Bool.{Bool, cond}
use mathlib.Core.Option.{Option, none, some}
use mathlib.Core.List.{List, [], ◌∷◌}
use native.Mathlib.Nat.{le_trans, not-suc-le-zero}
use native.Mathlib.Omega.{arith}
use borrow.Author.Tests.{ne_eqb}
use lib.Dec.{eqb}
use lib.ListN.{length, get_or}
use Rattle.entity.specs.Limits.{limits}
use Rattle.entity.specs.declared.Value.{Value}
use Rattle.definition.specs.Form.{Graph, Form, def}
use Rattle.definition.specs.Tables.{plus_one}
use Rattle.meaning.specs.Machine.{Task, Conf, conf, turn}
use Rattle.meaning.proofs.Fall.{left, turn_falls}
use Rattle.meaning.proofs.Lacking.{weight}
use Rattle.meaning.proofs.Machine.{Goes}
use Rattle.meaning.proofs.Port.{idle_goes}
use Rattle.meaning.proofs.Sums.{sum, sum_le}
use Rattle.meaning.proofs.Turns.{goes_on}
use Rattle.layout.specs.declared.Counts.{Counts}
use Rattle.layout.specs.Cells.{base}
use Rattle.layout.specs.Counts.{results_less}
use Rattle.layout.specs.Layout.{form_sizes, graph_sizes, Shown}
use Rattle.layout.proofs.Rows.{row_count}
use Rattle.layout.proofs.Stacks.{stacks_drop}
use Rattle.graph.specs.Seen.{preds_start}
use Rattle.graph.proofs.Cells.{blocks_cell, preds_row}
use Rattle.form.proofs.Variables.{definition_is}
use Rattle.work.specs.Work.{CanTake, lasts}
use Rattle.ssa.specs.Run.{UnderWay, CanRun, Ran}

-- ---- what is left, read off the cells: each block without a definition could still schedule a call for each predecessor, and one to settle

cell_weight : List ℕ → List ℕ → ℕ → ℕ → ℕ
cell_weight gl fl v b = cond (eqb (get_or fl (base form_sizes 10 + (v * limits.blocks + b)) 0) 0) (suc (get_or gl (preds_start b) 0)) 0

-- shut, like the sum
pub to_come : List ℕ → List ℕ → ℕ → ℕ
to_come gl fl v = sum (cell_weight gl fl v) (get_or gl (base graph_sizes 0) 0)

weight_is : (o : Option ℕ) (w : ℕ) → cond (eqb (plus_one o) 0) w 0 ≡ weight w o
weight_is none w = refl
weight_is (some x) w = ap (λ (z : Bool). cond z w 0) (ne_eqb (suc x) 0 (omega arith))

sum_same : (f g : ℕ → ℕ) (n : ℕ) → ((i : ℕ) → i < n → f i ≡ g i) → sum f n ≡ sum g n
sum_same f g n h = omega (arith, sum_le f g n (λ i l. omega (arith, h i l)), sum_le g f n (λ i l. omega (arith, h i l)))

module _ {gl fl wl : List ℕ} {c : Counts} {v ty : ℕ} {g : Graph} {k : Conf} (h : UnderWay gl fl wl c v ty g k) where
  weight_at : (b : ℕ) → b < g.blocks → cell_weight gl fl v b ≡ weight (suc (length (g.preds b))) (def k.form v b)
  unfolding cell_weight
  weight_at b lb =
      let known : b < limits.blocks = le_trans lb h.seen.bounds.few in
      let cell = definition_is fl v b k.form (record { cells = h.shown.form.cells; var = le_trans h.var h.seen.bounds.vars; known = known }) in
      let count = row_count _ _ _ _ (preds_row h.seen b known refl) in
      ap (λ (n : ℕ). cond (eqb n 0) (suc (get_or gl (preds_start b) 0)) 0) cell ∙ ap (λ (n : ℕ). cond (eqb (plus_one (def k.form v b)) 0) (suc n) 0) count
      ∙ weight_is (def k.form v b) (suc (length (g.preds b)))

  pub left_is : c.calls + to_come gl fl v ≡ left g v k
  unfolding to_come
  left_is =
      let count = ap (sum (cell_weight gl fl v)) (blocks_cell h.seen) in
      let same = sum_same (cell_weight gl fl v) (λ b. weight (suc (length (g.preds b))) (def k.form v b)) g.blocks weight_at in
      omega (arith, h.shown.work.calls, count, same)

-- ---- the loop

pub top : (k : Conf) → 0 < length k.tasks → (q : Task) × (ts : List Task) × (k ≡ conf (q ∷ ts) k.results k.form)
top k l = by k.tasks refl l
  where
    by : (us : List Task) → k.tasks ≡ us → 0 < length us → (q : Task) × (ts : List Task) × (k ≡ conf (q ∷ ts) k.results k.form)
    by [] e l = absurd (not-suc-le-zero l)
    by (q ∷ ts) e l = (q, ts, ap (λ (us : List Task). conf us k.results k.form) e)

nothing : (ts : List Task) → length ts ≤ 0 → ts ≡ []
nothing [] l = refl
nothing (q ∷ ts) l = absurd (not-suc-le-zero l)

module _ (gl fl₀ wl₀ : List ℕ) (c₀ : Counts) (v ty : ℕ) where
  -- Wherever the run started, the cells show a configuration from which it ends as it is to.
  abbrev pub Running : List ℕ → List ℕ → Counts → Type 0
  Running fl wl c = (g : Graph) (k : Conf) (x : ℕ) (s : Form) → CanRun gl fl₀ wl₀ c₀ v ty g k x s → (at : Conf) × CanRun gl fl wl c v ty g at x s

module _ {gl fl₀ wl₀ : List ℕ} {c₀ : Counts} {v ty : ℕ} {fl wl : List ℕ} {c : Counts} (R : Running gl fl₀ wl₀ c₀ v ty fl wl c) where
  module _ {g : Graph} {k : Conf} {x : ℕ} {s : Form} (h : CanRun gl fl₀ wl₀ c₀ v ty g k x s) where
    abbrev at : Conf
    at = (R g k x s h).0

    abbrev here : UnderWay gl fl wl c v ty g (R g k x s h).0
    here = (R g k x s h).1.under

    module _ (pos : 0 < c.calls) where
      abbrev pub first : (q : Task) × (ts : List Task) × ((R g k x s h).0 ≡ conf (q ∷ ts) (R g k x s h).0.results (R g k x s h).0.form)
      first = top at (subst (λ (n : ℕ). 0 < n) here.shown.work.calls pos)

      pub turn_can : UnderWay gl fl wl c v ty g (conf (first.0 ∷ first.1) (R g k x s h).0.results (R g k x s h).0.form)
      turn_can = subst (λ (u : Conf). UnderWay gl fl wl c v ty g u) first.2 here

      module _ {fl₁ wl₁ : List ℕ} {r : Counts} (S : (g : Graph) → (q : Task) → (ts : List Task) → (rs : List ℕ) → (s : Form) → UnderWay gl fl wl c v ty g (conf (q ∷ ts) rs s)
          → UnderWay gl fl₁ wl₁ r v ty g (turn g v (q ∷ ts) rs s)) where
        after : UnderWay gl fl₁ wl₁ r v ty g (turn g v (first.0 ∷ first.1) at.results at.form)
        after = S g first.0 first.1 at.results at.form turn_can

        pub run_falls : r.calls + to_come gl fl₁ v < c.calls + to_come gl fl v
        run_falls =
            let f = turn_falls g turn_can.seen.sound v first.0 first.1 at.results at.form turn_can.low in
            omega (arith, left_is turn_can, left_is after, f)

        run_next : (at : Conf) × CanRun gl fl₁ wl₁ r v ty g at x s
        run_next = (
          turn g v (first.0 ∷ first.1) at.results at.form,
          record {
            under = after;
            goal = goes_on g v (subst (λ (u : Conf). Goes g v u (conf [] (x ∷ []) s)) first.2 (R g k x s h).1.goal) refl;
          },
        )

    module _ (done : c.calls ≤ 0) where
      ended : Shown fl wl c (conf [] (x ∷ []) s)
      ended =
          let e : at.tasks ≡ [] = nothing at.tasks (subst (λ (n : ℕ). n ≤ 0) here.shown.work.calls done) in
          subst (λ (u : Conf). Shown fl wl c u) (sym (idle_goes g v (R g k x s h).1.goal e)) here.shown

      pub take_can : CanTake wl c 1 [] (x ∷ [])
      take_can = record { stacks = ended.work; enough = omega arith; height = omega arith }

      pub one_held : 1 ≤ c.results
      one_held = omega (arith, ended.work.results)

      pub ran : {val : Value} → ((ts : List Task) → (rs : List ℕ) → CanTake wl c 1 ts rs → val.0 ≡ get_or (lasts 1 rs) 0 0)
          → (r : Value × Counts) → r.0.0 ≡ val.0 → r.1 ≡ results_less 1 c → Ran fl wl c₀.call r x s
      ran is r ev ec = record {
        call = ap (λ (n : Counts). n.call) ec ∙ here.call ∙ sym h.under.call;
        val = ev ∙ is [] (x ∷ []) take_can;
        shown = subst (λ (n : Counts). Shown fl wl n (conf [] [] s)) (sym ec) (record {
          form = record { cells = ended.form.cells; next = ended.form.next };
          work = stacks_drop wl c [] (x ∷ []) ended.work 1;
        });
      }

  pub runs_next : 0 < c.calls → {fl₁ wl₁ : List ℕ} {r : Counts} → ((g : Graph) → (q : Task) → (ts : List Task) → (rs : List ℕ) → (s : Form) → UnderWay gl fl wl c v ty g (conf (q ∷ ts) rs s)
      → UnderWay gl fl₁ wl₁ r v ty g (turn g v (q ∷ ts) rs s)) → Running gl fl₀ wl₀ c₀ v ty fl₁ wl₁ r
  runs_next pos S g k x s h = run_next h pos S
