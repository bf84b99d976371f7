-- The loop over the calls: cleared cells show the empty session; a turn leads to the session of one call more; after the last, with the stacks' cells
-- cleared, the cells are what the whole session shows.
-- Assumes nothing.
use Prim.Native.Nat.{ℕ, zero, suc, ◌+◌, ◌≤◌, ◌<◌}
use mathlib.Core.Path.{◌≡◌, refl, sym, ap, ◌∙◌, subst}
use mathlib.Core.List.{List, [], ◌∷◌, ◌++◌, append-nil}
use native.Mathlib.Nat.{not-suc-le-zero, le_of_suc-le-suc}
use native.Mathlib.Numerals.{add-one}
use native.Mathlib.Omega.{arith}
use lib.ListN.{length, get_or, take, drop}
use lib.Seq.{take-suc, take_all, drop-length}
use Rattle.entity.specs.Limits.{limits, graph_need, form_need, work_need}
use Rattle.definition.specs.Session.{Call, step, empty, session}
use Rattle.definition.specs.Whole.{calls}
use Rattle.meaning.proofs.Sure.{empty_sure}
use Rattle.meaning.proofs.Answers.{run_last}
use Rattle.layout.specs.declared.Counts.{Counts}
use Rattle.layout.specs.Counts.{counts}
use Rattle.layout.specs.Cells.{render}
use Rattle.layout.specs.Layout.{graph_sizes, graph_tables, form_sizes, form_tables, render_work}
use Rattle.layout.specs.Outcome.{lent, SameLists, shown}
use Rattle.layout.proofs.Cells.{render_length, render_held, holds_render}
use Rattle.layout.proofs.Outcome.{calls_length}
use Rattle.layout.proofs.Stacks.{no_piles}
use Rattle.clear.specs.Cleared.{Long, Cleared}
use Rattle.turns.specs.declared.lists.Calls.{Calls}
use Rattle.turns.specs.declared.lists.Answers.{Answers}
use Rattle.turns.specs.Lists.{Exact}
use Rattle.turns.specs.Turns.{Turned, SameRoom, call_at}

-- ---- the calls

calls_at : (ks xs ys zs : List ℕ) (d : Call) (i : ℕ) → i < length ks → length xs ≡ length ks → length ys ≡ length ks → length zs ≡ length ks
    → get_or (calls ks xs ys zs) i d ≡ record { kind = get_or ks i 0; x = get_or xs i 0; y = get_or ys i 0; z = get_or zs i 0 }
calls_at [] xs ys zs d i l a b c = absurd (not-suc-le-zero l)
calls_at (k ∷ ks) [] ys zs d i l a b c = absurd (omega (arith, a))
calls_at (k ∷ ks) (x ∷ xs) [] zs d i l a b c = absurd (omega (arith, b))
calls_at (k ∷ ks) (x ∷ xs) (y ∷ ys) [] d i l a b c = absurd (omega (arith, c))
calls_at (k ∷ ks) (x ∷ xs) (y ∷ ys) (z ∷ zs) d zero l a b c = refl
calls_at (k ∷ ks) (x ∷ xs) (y ∷ ys) (z ∷ zs) d (suc i) l a b c = calls_at ks xs ys zs d i (le_of_suc-le-suc l) (omega arith) (omega arith) (omega arith)

-- ---- the loop

abbrev pub all_of : Calls → List Call
all_of asked = calls asked.kinds.now asked.xs.now asked.ys.now asked.zs.now

pub record Running (asked : Calls) (a₀ a : Answers) (gl fl wl : List ℕ) (c : Counts) (i : ℕ) : Type 0 where
  pub most : i ≤ length asked.kinds.now
  pub room : SameRoom a₀ a
  pub lined : length a.codes.now ≡ length asked.kinds.now
  pub exact : Exact gl fl wl
  pub turned : Turned asked a gl fl wl c i (session (take i (all_of asked)))

pub long : {gl fl wl : List ℕ} → Exact gl fl wl → Long gl fl
long h = record { graph_long = omega (arith, h.graph_exact); form_long = omega (arith, h.form_exact) }

pub work_long : {gl fl wl : List ℕ} → Exact gl fl wl → work_need limits ≤ length wl
work_long h = omega (arith, h.work_exact)

-- nothing is past the need
only : (l l' : List ℕ) (n : ℕ) (r : List ℕ) → length l ≡ n → l' ≡ r ++ drop n l → l' ≡ r
only l l' n r e q = q ∙ ap (λ (s : List ℕ). r ++ s) (rw (← e) (drop-length l)) ∙ append-nil r

module _ {gl fl wl gl' fl' : List ℕ} (e : Exact gl fl wl) (h : Cleared gl fl gl' fl') where
  graph_is : gl' ≡ render graph_sizes (graph_tables empty.graph)
  graph_is = only gl gl' (graph_need limits) _ e.graph_exact h.graph_empty

  form_is : fl' ≡ render form_sizes (form_tables empty.form)
  form_is = only fl fl' (form_need limits) _ e.form_exact h.form_empty

  pub running_start : {asked : Calls} {a : Answers} → length a.codes.now ≡ length asked.kinds.now → Running asked a a gl' fl' wl (counts 0 0 0 0) 0
  running_start q = record {
    most = omega arith;
    room = record { codes = refl; numbers = refl; long = refl };
    lined = q;
    exact = record {
      graph_exact = ap length graph_is ∙ render_length graph_sizes (graph_tables empty.graph);
      form_exact = ap length form_is ∙ render_length form_sizes (form_tables empty.form);
      work_exact = e.work_exact;
    };
    turned = record {
      told = record { kinds = refl; codes = refl; numbers = refl };
      between = record {
        showing = record {
          leaves = record {
            graph = record { cells = render_held graph_sizes gl' (graph_tables empty.graph) graph_is; call = refl };
            form = record { cells = render_held form_sizes fl' (form_tables empty.form) form_is; next = refl };
            calls = refl;
            results = refl;
          };
          sure = empty_sure;
        };
        idle = no_piles wl (work_long e);
      };
      turns = refl;
    };
  }

module _ {asked : Calls} {a₀ a : Answers} {gl fl wl : List ℕ} {c : Counts} {i : ℕ} (h : Running asked a₀ a gl fl wl c i) where
  abbrev all : List Call
  all = all_of asked

  all_length : length all ≡ length asked.kinds.now
  all_length = calls_length asked.kinds.now asked.xs.now asked.ys.now asked.zs.now asked.fit.xs_long asked.fit.ys_long asked.fit.zs_long

  module _ (lt : i < length asked.kinds.now) where
    one_more : step (session (take i all)) (call_at asked i) ≡ session (take (suc i) all)
    one_more =
        let d = call_at asked i in
        let f = asked.fit in
        ap (step (session (take i all)))
        (sym (calls_at asked.kinds.now asked.xs.now asked.ys.now asked.zs.now d i lt f.xs_long f.ys_long f.zs_long))
        ∙ sym (run_last (take i all) (get_or all i d) empty) ∙ ap session (sym (take-suc all i d (omega (arith, lt, all_length))))

    pub running_next : {a' : Answers} {gl' fl' wl' : List ℕ} {d : Counts} → SameRoom a a' → length gl' ≡ length gl → length fl' ≡ length fl
        → length wl' ≡ length wl → Turned asked a' gl' fl' wl' d (suc i) (step (session (take i all)) (call_at asked i))
        → Running asked a₀ a' gl' fl' wl' d (i + 1)
    running_next k eg ef ew t = record {
      most = omega (arith, lt);
      room = record { codes = k.codes ∙ h.room.codes; numbers = k.numbers ∙ h.room.numbers; long = k.long ∙ h.room.long };
      lined = k.long ∙ h.lined;
      exact = record { graph_exact = eg ∙ h.exact.graph_exact; form_exact = ef ∙ h.exact.form_exact; work_exact = ew ∙ h.exact.work_exact };
      turned = rw add-one (rw one_more at t);
    }

  module _ (past : length asked.kinds.now ≤ i) where
    whole : take i all ≡ all
    whole = take_all i all (omega (arith, past, all_length))

    last : Turned asked a gl fl wl c i (session all)
    last = subst (λ (cs : List Call). Turned asked a gl fl wl c i (session cs)) whole h.turned

    filled : (l : List ℕ) → length l ≡ length asked.kinds.now → take (length (session all).done) l ≡ l
    filled l e = take_all (length (session all).done) l (omega (arith, e, h.most, past, last.turns))

    -- codes and numbers are the two lists that were lent for the answers
    pub running_end : {codes numbers wl' : List ℕ} → codes ≡ a.codes.now → numbers ≡ a.numbers.now → wl' ≡ render_work ++ drop (work_need limits) wl
        → SameLists (lent codes numbers gl fl wl') (shown (session all))
    running_end {wl' = wl'} p q w = record {
      codes = p ∙ sym (filled a.codes.now h.lined) ∙ last.told.codes;
      numbers = q ∙ sym (filled a.numbers.now (a.even ∙ h.lined)) ∙ last.told.numbers;
      graph = holds_render graph_sizes gl (graph_tables (session all).graph) h.exact.graph_exact last.between.showing.leaves.graph.cells;
      form = holds_render form_sizes fl (form_tables (session all).form) h.exact.form_exact last.between.showing.leaves.form.cells;
      work = only wl wl' (work_need limits) render_work h.exact.work_exact w;
    }
