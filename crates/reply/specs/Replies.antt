-- What a call answers and leaves, in the numbers of docs/RULES.md, for each case of the definition's reply; and what every kind of call asks and promises.
-- Assumes nothing.
use Rattle.std.specs.Prelude.{ℕ, ◌≡◌, List, Result, Ok, Err}
use Rattle.definition.specs.Form.{Graph, Form}
use Rattle.definition.specs.Session.{State, Reply as Defined, no, ok}
use Rattle.meaning.proofs.Sure.{Sure}
use Rattle.layout.specs.declared.Counts.{Counts}
use Rattle.layout.specs.Layout.{Graphs, Shows}
use Rattle.reply.specs.declared.Reply.{Reply}
use Rattle.reply.specs.declared.Accepted.{Accepted}
use Rattle.reply.specs.declared.Refusal.{Refusal}

-- the codes of docs/RULES.md
abbrev pub refusal_code : Refusal → ℕ
refusal_code Refusal.UnknownKind = 3
refusal_code Refusal.Full = 4
refusal_code Refusal.Skips = 5
refusal_code Refusal.Absent = 6
refusal_code Refusal.OtherType = 7
refusal_code Refusal.Sealed = 8
refusal_code Refusal.Branched = 9
refusal_code Refusal.DestsFull = 10
refusal_code Refusal.Declared = 11
refusal_code Refusal.DeclaredHere = 12
refusal_code Refusal.Unrelated = 13
refusal_code Refusal.Begun = 17
refusal_code Refusal.OwnFull = 18
refusal_code Refusal.Defined = 19
refusal_code Refusal.Late = 20

-- an accepted call's number and the counts after it
abbrev pub taken : ℕ → Counts → Accepted
taken n c = record { number = n; counts = c }

-- what refusing and accepting make of the counts
abbrev pub refusal : ℕ → Counts → Reply
refusal k c = record { code = k; number = 0; counts = c }

abbrev pub acceptance : ℕ → Counts → Reply
acceptance n c = record { code = 0; number = n; counts = c }

-- the code, the number and the counts after a call that answers a, by the counts before it: a refused one leaves them
abbrev pub reply_of : Counts → Result Accepted Refusal → Reply
reply_of c (Ok a) = acceptance a.number a.counts
reply_of c (Err e) = refusal (refusal_code e) c

-- a refused call has its code and the number 0; an accepted one the code 0 and its number
abbrev pub code_of : Defined → ℕ
code_of (no k) = k
code_of (ok n g s) = 0

abbrev pub number_of : Defined → ℕ
number_of (no k) = 0
number_of (ok n g s) = n

-- a refused call changes nothing
abbrev pub graph_after : Graph → Defined → Graph
graph_after g (no k) = g
graph_after g (ok n g' s') = g'

abbrev pub form_after : Form → Defined → Form
form_after s (no k) = s
form_after s (ok n g' s') = s'

-- The lent cells of the graph and of the form, and the counts, show this graph and this form; both stacks are empty.
pub record Leaves (gl fl : List ℕ) (c : Counts) (g : Graph) (s : Form) : Type 0 where
  pub graph : Graphs gl c g
  pub form : Shows fl c s
  pub calls : c.calls ≡ 0
  pub results : c.results ≡ 0

-- r answers the definition's reply d to a call on this graph and form, and the cells show what d leaves
pub record Replies (gl fl : List ℕ) (r : Reply) (g : Graph) (s : Form) (d : Defined) : Type 0 where
  pub code : r.code ≡ code_of d
  pub number : r.number ≡ number_of d
  pub leaves : Leaves gl fl r.counts (graph_after g d) (form_after s d)

-- the cells and the counts show a state that has all that holds of every session
pub record Showing (gl fl : List ℕ) (c : Counts) (t : State) : Type 0 where
  pub leaves : Leaves gl fl c t.graph t.form
  pub sure : Sure t

-- what every kind asks: they show some such state
abbrev pub SomeState : List ℕ → List ℕ → Counts → Type 0
SomeState gl fl c = (t : State) × Showing gl fl c t

-- what every kind promises: for each state that the cells gl and fl show, a answers the reply f, and gl' and fl' show what it leaves
abbrev pub Answers : List ℕ → List ℕ → List ℕ → List ℕ → Counts → Result Accepted Refusal → (Graph → Form → Defined) → Type 0
Answers gl fl gl' fl' c a f = (t : State) → Showing gl fl c t → Replies gl' fl' (reply_of c a) t.graph t.form (f t.graph t.form)
