-- Between two calls the cells show a steady state with idle stacks, so a use and a seal can run; what they leave is such a state again.
-- Assumes nothing.
use Prim.Native.Nat.{ℕ, ◌-◌, ◌<◌}
use mathlib.Core.Path.{◌≡◌, ap}
use mathlib.Core.Bool.{false}
use mathlib.Core.Logic.{◌⊎◌, inl, inr}
use mathlib.Core.List.{List}
use Rattle.std.specs.Prelude.{Result, Ok}
use lib.Dec.{leb}
use lib.ListN.{length, get_or-eq_default}
use borrow.Author.Tests.{leb-false}
use Rattle.definition.specs.Form.{Graph, Form}
use Rattle.definition.specs.Session.{Done, State, Reply as Defined, no, ok, reply}
use Rattle.meaning.proofs.Steady.{steady_of}
use Rattle.layout.specs.declared.Counts.{Counts}
use Rattle.graph.specs.Seen.{GraphWith, Seen}
use Rattle.form.specs.Can.{Cells}
use Rattle.reply.specs.declared.Reply.{Reply}
use Rattle.reply.specs.declared.Accepted.{Accepted}
use Rattle.reply.specs.declared.Refusal.{Refusal}
use Rattle.reply.specs.Replies.{SomeState, Replies, taken, reply_of}
use Rattle.reply.proofs.Asked.{seen}
use Rattle.reply.proofs.Answered.{accepted}
use Rattle.ssa.specs.Use.{AtRest, CanRead, CanSeal}
use Rattle.calls.specs.Calls.{StateWith, Between, Replied}

-- a number that is not past the count names something that is there
pub named : {n b : ℕ} → leb n b ≡ false → b < n
named {n} {b} p = leb-false n b p

module _ {gl fl wl : List ℕ} {c : Counts} {t : State} (h : Between gl fl wl c t) where
  pub at_rest : AtRest gl fl wl c t.graph t.form
  at_rest =
      let l = h.showing.leaves in
      record { graph = l.graph; shown = record { form = l.form; work = record { cells = h.idle; calls = l.calls; results = l.results } }; steady = steady_of t h.showing.sure }

  pub seen_of : Seen gl t.graph
  seen_of = seen h.showing

  pub cells_of : Cells fl t.form
  cells_of = h.showing.leaves.form.cells

  pub read_can : {v b : ℕ} → v < length t.graph.types → b < t.graph.blocks → CanRead gl fl wl c v b t.graph t.form
  read_can lv lb = record { rest = at_rest; var = lv; known = lb }

  pub seal_can : {b : ℕ} → b < t.graph.blocks → CanSeal gl fl wl c b t.graph t.form
  seal_can lb = record { rest = at_rest; known = lb }

  -- the stacks are as they were
  pub idle_still : {gl' fl' : List ℕ} {r : Reply} {d : Defined} → Replies gl' fl' r t.graph t.form d → Replied gl' fl' wl r t.graph t.form d
  idle_still p = record { replies = p; idle = h.idle }

-- accepted, with a steady state again
pub taken_on : {gl fl wl : List ℕ} {d : Counts} {g g' : Graph} {s s' : Form} (c : Counts) (a : Result Accepted Refusal) {m n : ℕ} → a ≡ Ok (taken m d) → m ≡ n
    → AtRest gl fl wl d g' s' → Replied gl fl wl (reply_of c a) g s (ok n g' s')
taken_on c a e same l = record {
  replies = accepted c a e same record { graph = l.graph; form = l.shown.form; calls = l.shown.work.calls; results = l.shown.work.results };
  idle = l.shown.work.cells;
}

module _ {gl fl wl : List ℕ} {c : Counts} (p : StateWith (Between gl fl wl c)) where
  pub ready : SomeState gl fl c
  ready = (p.0, p.1.showing)

  pub seen_some : GraphWith (Seen gl)
  seen_some = (p.0.graph, seen_of p.1)

-- the lengths of the log before and after give what was added
pub difference : {m n a b : ℕ} → m ≡ a → n ≡ b → m - n ≡ a - b
difference p q = rw (p, q)

-- a number that no kind has
pub unknown : (g : Graph) (s : Form) (ds : List Done) (x y z k : ℕ) → (k ≡ 0) ⊎ (17 < k) → reply g s ds x y z k ≡ no 3
unknown g s ds x y z k o = elim o [ inl e ↦ ap (reply g s ds x y z) e | inr l ↦ rw (get_or-eq_default _ _ l) ]
