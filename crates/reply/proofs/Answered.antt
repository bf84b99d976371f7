-- The ways in which a kind ends: refused; accepted, with the cells as they are, or with cells that show what has changed.
-- Assumes nothing.
use Prim.Native.Nat.{ℕ, ◌<◌, ◌≤◌}
use mathlib.Core.Path.{◌≡◌, refl, sym, ap, ◌∙◌}
use mathlib.Core.Bool.{false}
use mathlib.Core.List.{List}
use Rattle.std.specs.Prelude.{Result, Ok, Err, IsErrAnd}
use native.Mathlib.Nat.{le_trans}
use borrow.Author.Tests.{leb-false}
use lib.Dec.{leb}
use Rattle.definition.specs.Form.{Graph, Form}
use Rattle.definition.specs.Session.{State, no, ok}
use Rattle.layout.specs.declared.Counts.{Counts}
use Rattle.layout.specs.Counts.{more}
use Rattle.layout.specs.Layout.{Shows}
use Rattle.graph.specs.Seen.{Shown}
use Rattle.form.specs.Can.{Cells}
use Rattle.reply.specs.declared.Accepted.{Accepted}
use Rattle.reply.specs.declared.Refusal.{Refusal}
use Rattle.reply.specs.Replies.{Leaves, Replies, Showing, refusal_code, taken, reply_of}

-- what the code tests is what the definition tests, so both go the same way
pub tested : {A : Type 0} {a b z : A} → a ≡ b → a ≡ z → b ≡ z
tested p q = sym p ∙ q

-- a number that is not past the count is within the limit
pub in_limit : {n b m : ℕ} → n ≤ m → leb n b ≡ false → b < m
in_limit l e = le_trans (leb-false _ _ e) l

-- a refusal that a check gave is passed on as it is
pub passed_on : {A : Type 0} (r : Result A Refusal) (e : Refusal) → IsErrAnd r (λ (k : Refusal). k ≡ e) → r ≡ Err e
passed_on (Ok x) e p = absurd p
passed_on (Err k) e p = ap Err p

module _ {gl fl : List ℕ} {c : Counts} {t : State} (h : Showing gl fl c t) where
  pub refused : (e : Refusal) {k : ℕ} → refusal_code e ≡ k → Replies gl fl (reply_of c (Err e)) t.graph t.form (no k)
  refused e p = record { code = p; number = refl; leaves = h.leaves }

  -- by a check, which says why; and by one that did not find what the call names
  pub turned_down : (r : Result Accepted Refusal) (e : Refusal) → IsErrAnd r (λ (k : Refusal). k ≡ e) → Replies gl fl (reply_of c r) t.graph t.form
      (no (refusal_code e))
  turned_down r e p = rw (passed_on r e p) (refused e refl)

  pub absent : (r : Result Accepted Refusal) (e : Refusal) → IsErrAnd r (λ (k : Refusal). k ≡ e) → e ≡ Refusal.Absent
      → Replies gl fl (reply_of c r) t.graph t.form (no 6)
  absent r e p q = rw (passed_on r e p, q) (refused Refusal.Absent refl)

  -- the graph or the form changed, or both, and no value was made
  pub changed : {gl' fl' : List ℕ} {g : Graph} {s : Form} → g.call ≡ t.graph.call → s.next ≡ t.form.next → Shown gl' g → Cells fl' s → Leaves gl' fl' c g s
  changed p q shown cells = record {
    graph = record { cells = shown; call = h.leaves.graph.call ∙ sym p };
    form = record { cells = cells; next = h.leaves.form.next ∙ sym q };
    calls = h.leaves.calls;
    results = h.leaves.results;
  }

  -- a value was made
  pub value_added : {fl' : List ℕ} {d : Counts} {s : Form} → d ≡ more c → Shows fl' (more c) s → Leaves gl fl' d t.graph s
  value_added e shown = rw e record {
    graph = record { cells = h.leaves.graph.cells; call = h.leaves.graph.call };
    form = shown;
    calls = h.leaves.calls;
    results = h.leaves.results;
  }

pub accepted : {gl fl : List ℕ} {d : Counts} {g g' : Graph} {s s' : Form} (c : Counts) (a : Result Accepted Refusal) {m n : ℕ} → a ≡ Ok (taken m d) → m ≡ n
    → Leaves gl fl d g' s' → Replies gl fl (reply_of c a) g s (ok n g' s')
accepted c a e same l = rw e record { code = refl; number = same; leaves = l }
