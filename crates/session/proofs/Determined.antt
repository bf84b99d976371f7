-- The promise determines the answer and every lent cell, since it equates them with the outcome. So a refusal leaves all as it was, cells past the need
-- are kept, and the needed cells of an accepted session are what the session of its calls shows.
-- Assumes nothing.
use Prim.Native.Nat.{ℕ}
use mathlib.Core.Path.{◌≡◌, sym, ap, ◌∙◌}
use mathlib.Core.List.{List}
use lib.ListN.{length}
use Rattle.definition.specs.Session.{Call, session}
use Rattle.definition.specs.Whole.{calls, needs}
use Rattle.meaning.specs.Path.{Supposed, Right}
use Rattle.meaning.proofs.Theorems.{answers_hold}
use Rattle.layout.specs.Outcome.{Lent, lent, SameLists, lengths, outcome, shown, first, past}
use Rattle.layout.specs.Same.{SameGraph, SameForm}
use Rattle.layout.proofs.Outcome.{outcome_answer, outcome_refused, outcome_past, outcome_first}
use Rattle.layout.proofs.Same.{same_sessions}
use Rattle.session.specs.Ends.{Ended}

same_lent : (t u : Lent) → SameLists t u → t ≡ u
same_lent t u h =
    ap (λ (l : List ℕ). lent l t.numbers t.graph t.form t.work) h.codes
    ∙ ap (λ (l : List ℕ). lent u.codes l t.graph t.form t.work) h.numbers
    ∙ ap (λ (l : List ℕ). lent u.codes u.numbers l t.form t.work) h.graph
    ∙ ap (λ (l : List ℕ). lent u.codes u.numbers u.graph l t.work) h.form
    ∙ ap (λ (l : List ℕ). lent u.codes u.numbers u.graph u.form l) h.work

module _ (ks xs ys zs : List ℕ) where
  module _ {before after : Lent} {r : ℕ} (h : Ended ks xs ys zs before after r) where
    left : after ≡ (outcome ks xs ys zs before).1
    left = same_lent after (outcome ks xs ys zs before).1 h.leaves

    -- any two outcomes that meet the promise are the same
    pub determined : {after' : Lent} {r' : ℕ} → Ended ks xs ys zs before after' r' → (r ≡ r') × (after ≡ after')
    determined h' = (h.answer ∙ sym h'.answer, left ∙ sym (same_lent _ (outcome ks xs ys zs before).1 h'.leaves))

    -- call lists and lengths alone fix the answer
    pub answered_by_lengths : {before' after' : Lent} {r' : ℕ} → Ended ks xs ys zs before' after' r' → lengths before ≡ lengths before' → r ≡ r'
    answered_by_lengths {before'} h' e = h.answer ∙ outcome_answer ks xs ys zs before before' e ∙ sym h'.answer

    -- a session that is refused leaves all as it was
    pub refused_untouched : (r ≡ 0 → ⊥) → after ≡ before
    refused_untouched n = left ∙ outcome_refused ks xs ys zs before (λ e. n (h.answer ∙ e))

    -- cells past the need keep what they held
    pub past_kept : past (needs (length ks)) after ≡ past (needs (length ks)) before
    past_kept = ap (past (needs (length ks))) left ∙ outcome_past ks xs ys zs before

  -- What a host has after an accepted session.
  module _ {before after : Lent} (h : Ended ks xs ys zs before after 0) where
    -- the needed cells are the answers and tables of the session of these calls
    pub cells_show : first (needs (length ks)) after ≡ shown (session (calls ks xs ys zs))
    cells_show = ap (first (needs (length ks))) (left h) ∙ outcome_first ks xs ys zs before (sym h.answer)

    -- and of no session with other tables
    pub state_shown : (cs : List Call) → first (needs (length ks)) after ≡ shown (session cs)
        → SameGraph (session cs).graph (session (calls ks xs ys zs)).graph × SameForm (session cs).form (session (calls ks xs ys zs)).form
    state_shown cs e =
        let q = sym e ∙ cells_show in
        same_sessions cs (calls ks xs ys zs) (ap (λ (t : Lent). t.graph) q) (ap (λ (t : Lent). t.form) q)

    -- So there is one session, that of these calls, of which two things hold: the needed cells show it, and demand 3 is true of it where it is as supposed.
    pub accepted_right : let t = session (calls ks xs ys zs) in (first (needs (length ks)) after ≡ shown t) × (Supposed t → Right t)
    accepted_right = (cells_show, answers_hold (calls ks xs ys zs))
