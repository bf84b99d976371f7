-- The outcome keeps every length and every cell past the need; a refusal keeps all; and call lists and lengths alone fix the answer and the
-- needed cells. Each lent list becomes cells of exactly the need's length, followed by what was past it.
-- Assumes nothing.
use Prim.Native.Nat.{ℕ, suc, ◌≤◌}
use mathlib.Core.Path.{◌≡◌, refl, sym, ap, ◌∙◌, subst}
use mathlib.Core.Logic.{inl, inr}
use mathlib.Core.Bool.{Bool, true, false, cond, ◌&&◌, ◌||◌}
use mathlib.Core.List.{List, [], ◌∷◌, ◌++◌}
use native.Mathlib.Omega.{arith}
use lib.ListN.{length, drop, length-append, length-drop, length-map}
use lib.Seq.{take_at, drop_at}
use Rattle.entity.specs.Limits.{limits, graph_need, form_need, work_need}
use Rattle.definition.specs.Base.{◌=?◌, ◌<?◌}
use Rattle.definition.specs.Session.{Done, State, session}
use Rattle.definition.specs.Whole.{calls, Lengths, needs, short, unfit, whole_answer}
use Rattle.meaning.proofs.Maps.{bool?, eqb_eq, eqb_diff, ltb_no, or_no, and_both, not_no}
use Rattle.meaning.proofs.Steady.{calls_count}
use Rattle.layout.specs.Layout.{graph_sizes, graph_tables, form_sizes, form_tables, work_sizes}
use Rattle.layout.specs.Outcome.{Lent, lengths, outcome, shown, first, past, followed_by}
use Rattle.layout.proofs.Cells.{render_length}

-- ---- what the two tests of lengths say

pub record Fits (ks xs ys zs : List ℕ) (t : Lent) : Type 0 where
  pub few : length ks ≤ limits.calls
  pub xs_fit : length xs ≡ length ks
  pub ys_fit : length ys ≡ length ks
  pub zs_fit : length zs ≡ length ks
  pub codes_fit : length ks ≤ length t.codes
  pub numbers_fit : length ks ≤ length t.numbers
  pub graph_fit : graph_need limits ≤ length t.graph
  pub form_fit : form_need limits ≤ length t.form
  pub work_fit : work_need limits ≤ length t.work

-- the session's answer, by the two tests
abbrev pub by_tests : Bool → Bool → ℕ
by_tests u v = cond u 2 (cond v 1 0)

module _ (ks xs ys zs : List ℕ) (t : Lent) where
  pub fits : unfit ks xs ys zs ≡ false → short (needs (length ks)) (lengths t) ≡ false → Fits ks xs ys zs t
  fits u v =
      let n = length ks in
      let o = or_no _ (limits.calls <? n) u in
      let p = and_both (length xs =? n && length ys =? n) (length zs =? n) (not_no _ o.0) in
      let q = and_both (length xs =? n) (length ys =? n) p.0 in
      let l = lengths t in
      let m = needs n in
      let w = or_no (l.codes <? m.codes || l.numbers <? m.numbers || l.graph <? m.graph || l.form <? m.form) (l.work <? m.work) v in
      let f = or_no (l.codes <? m.codes || l.numbers <? m.numbers || l.graph <? m.graph) (l.form <? m.form) w.0 in
      let g = or_no (l.codes <? m.codes || l.numbers <? m.numbers) (l.graph <? m.graph) f.0 in
      let a = or_no (l.codes <? m.codes) (l.numbers <? m.numbers) g.0 in
      record {
        few = ltb_no limits.calls n o.1;
        xs_fit = eqb_eq (length xs) n q.0;
        ys_fit = eqb_eq (length ys) n q.1;
        zs_fit = eqb_eq (length zs) n p.1;
        codes_fit = ltb_no l.codes m.codes a.0;
        numbers_fit = ltb_no l.numbers m.numbers a.1;
        graph_fit = ltb_no l.graph m.graph g.1;
        form_fit = ltb_no l.form m.form f.1;
        work_fit = ltb_no l.work m.work w.1;
      }

  accepted_fits : whole_answer ks xs ys zs (lengths t) ≡ 0 → Fits ks xs ys zs t
  accepted_fits = by (unfit ks xs ys zs) refl (short (needs (length ks)) (lengths t)) refl
    where
      by : (u : Bool) → unfit ks xs ys zs ≡ u → (v : Bool) → short (needs (length ks)) (lengths t) ≡ v → by_tests u v ≡ 0 → Fits ks xs ys zs t
      by true p v q e = absurd (omega arith)
      by false p true q e = absurd (omega arith)
      by false p false q e = fits p q

pub calls_length : (ks xs ys zs : List ℕ) → length xs ≡ length ks → length ys ≡ length ks → length zs ≡ length ks → length (calls ks xs ys zs) ≡ length ks
calls_length [] xs ys zs a b c = refl
calls_length (k ∷ ks) [] ys zs a b c = a
calls_length (k ∷ ks) (x ∷ xs) [] zs a b c = b
calls_length (k ∷ ks) (x ∷ xs) (y ∷ ys) [] a b c = c
calls_length (k ∷ ks) (x ∷ xs) (y ∷ ys) (z ∷ zs) a b c = ap suc (calls_length ks xs ys zs (omega arith) (omega arith) (omega arith))

-- ---- lists over old ones, m long

module _ (m : Lengths) (t : Lent) (e : lengths t ≡ m) (old : Lent) where
  codes : length t.codes ≡ m.codes
  codes = ap (λ (n : Lengths). n.codes) e

  numbers : length t.numbers ≡ m.numbers
  numbers = ap (λ (n : Lengths). n.numbers) e

  graph : length t.graph ≡ m.graph
  graph = ap (λ (n : Lengths). n.graph) e

  form : length t.form ≡ m.form
  form = ap (λ (n : Lengths). n.form) e

  work : length t.work ≡ m.work
  work = ap (λ (n : Lengths). n.work) e

  -- what stands past them is kept
  over_past : past m (followed_by t (past m old)) ≡ past m old
  over_past =
      rw (
        drop_at t.codes (drop m.codes old.codes) m.codes codes,
        drop_at t.numbers (drop m.numbers old.numbers) m.numbers numbers,
        drop_at t.graph (drop m.graph old.graph) m.graph graph,
        drop_at t.form (drop m.form old.form) m.form form,
        drop_at t.work (drop m.work old.work) m.work work,
      )

  over_first : first m (followed_by t (past m old)) ≡ t
  over_first =
      rw (
        take_at t.codes (drop m.codes old.codes) m.codes codes,
        take_at t.numbers (drop m.numbers old.numbers) m.numbers numbers,
        take_at t.graph (drop m.graph old.graph) m.graph graph,
        take_at t.form (drop m.form old.form) m.form form,
        take_at t.work (drop m.work old.work) m.work work,
      )

-- ---- the outcome

pub shown_lengths : (s : State) → lengths (shown s) ≡ needs (length s.done)
shown_lengths s =
    rw (
      length-map s.done (λ (d : Done). d.code),
      length-map s.done (λ (d : Done). d.number),
      render_length graph_sizes (graph_tables s.graph),
      render_length form_sizes (form_tables s.form),
      render_length work_sizes [],
    )

module _ (ks xs ys zs : List ℕ) where
  abbrev ended : State
  ended = session (calls ks xs ys zs)

  fit_needs : {t : Lent} → Fits ks xs ys zs t → lengths (shown ended) ≡ needs (length ks)
  fit_needs h = shown_lengths ended ∙ ap needs ((calls_count (calls ks xs ys zs)).1 ∙ calls_length ks xs ys zs h.xs_fit h.ys_fit h.zs_fit)

  module _ (t : Lent) where
    abbrev answer : ℕ
    answer = whole_answer ks xs ys zs (lengths t)

    -- what is left where the session is run, and what else
    abbrev left : Bool → Lent
    left z = cond z (followed_by (shown ended) (past (needs (length ks)) t)) t

    kept_lengths : Fits ks xs ys zs t → lengths (left true) ≡ lengths t
    kept_lengths h =
        let e = fit_needs h in
        let m = needs (length ks) in
        let s = shown ended in
        rw (
          one m.codes s.codes t.codes (codes m s e t) h.codes_fit,
          one m.numbers s.numbers t.numbers (numbers m s e t) h.numbers_fit,
          one m.graph s.graph t.graph (graph m s e t) h.graph_fit,
          one m.form s.form t.form (form m s e t) h.form_fit,
          one m.work s.work t.work (work m s e t) h.work_fit,
        )
      where
        one : (n : ℕ) (us old : List ℕ) → length us ≡ n → n ≤ length old → length (us ++ drop n old) ≡ length old
        one n us old e l = length-append us (drop n old) ∙ omega (arith, length-drop n old)

    -- what holds of lists left as they were, and of those of a session that is run, holds of the outcome
    by_answer : (P : Lent → Type 0) → P t → (Fits ks xs ys zs t → P (left true)) → P (outcome ks xs ys zs t).1
    by_answer P kept new = elim (bool? (answer =? 0)) [
      | inl e ↦ subst (λ (z : Bool). P (left z)) (sym e) (new (accepted_fits ks xs ys zs t (eqb_eq answer 0 e)))
      | inr e ↦ subst (λ (z : Bool). P (left z)) (sym e) kept
    ]

    -- a refusal changes nothing
    pub outcome_refused : ((outcome ks xs ys zs t).0 ≡ 0 → ⊥) → (outcome ks xs ys zs t).1 ≡ t
    outcome_refused n = ap left (eqb_diff answer 0 n)

    pub outcome_lengths : lengths (outcome ks xs ys zs t).1 ≡ lengths t
    outcome_lengths = by_answer (λ u. lengths u ≡ lengths t) refl kept_lengths

    pub outcome_past : past (needs (length ks)) (outcome ks xs ys zs t).1 ≡ past (needs (length ks)) t
    outcome_past = by_answer (λ u. past (needs (length ks)) u ≡ past (needs (length ks)) t) refl (λ h. over_past (needs (length ks)) (shown ended) (fit_needs h) t)

    -- an accepted session shows its state
    pub outcome_first : (outcome ks xs ys zs t).0 ≡ 0 → first (needs (length ks)) (outcome ks xs ys zs t).1 ≡ shown ended
    outcome_first e =
        ap (λ (n : ℕ). first (needs (length ks)) (left (n =? 0))) e ∙ over_first (needs (length ks)) (shown ended) (fit_needs (accepted_fits ks xs ys zs t e)) t

  -- call lists and lengths alone fix the answer
  pub outcome_answer : (t t' : Lent) → lengths t ≡ lengths t' → (outcome ks xs ys zs t).0 ≡ (outcome ks xs ys zs t').0
  outcome_answer t t' e = ap (whole_answer ks xs ys zs) e
