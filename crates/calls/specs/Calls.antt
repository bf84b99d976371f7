-- What one call over the lent cells asks and promises.
-- Assumes nothing.
use Rattle.std.specs.Prelude.{ℕ, List, [], Result}
use Rattle.definition.specs.Form.{Graph, Form}
use Rattle.definition.specs.Session.{State, Reply as Defined}
use Rattle.layout.specs.declared.Counts.{Counts}
use Rattle.layout.specs.Layout.{Piles}
use Rattle.reply.specs.declared.Reply.{Reply}
use Rattle.reply.specs.declared.Accepted.{Accepted}
use Rattle.reply.specs.declared.Refusal.{Refusal}
use Rattle.reply.specs.Replies.{Showing, Replies, reply_of}

-- there is a state such that
abbrev pub StateWith : (State → Type 0) → Type 0
StateWith P = (t : State) × P t

-- The cells and the counts show a state between two calls; both stacks are empty, whatever their cells hold.
pub record Between (gl fl wl : List ℕ) (c : Counts) (t : State) : Type 0 where
  pub showing : Showing gl fl c t
  pub idle : Piles wl [] []

-- r answers the definition's reply d, and the cells show what d leaves
pub record Replied (gl fl wl : List ℕ) (r : Reply) (g : Graph) (s : Form) (d : Defined) : Type 0 where
  pub replies : Replies gl fl r g s d
  pub idle : Piles wl [] []

-- for each state that the cells show, a answers the reply f
abbrev pub Answers : List ℕ → List ℕ → List ℕ → List ℕ → List ℕ → List ℕ → Counts → Result Accepted Refusal
    → (Graph → Form → Defined) → Type 0
Answers gl fl wl gl' fl' wl' c a f = (t : State) → Between gl fl wl c t → Replied gl' fl' wl' (reply_of c a) t.graph t.form (f t.graph t.form)
