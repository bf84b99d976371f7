-- What a check says of a number that a call names: what it names is there, or the call is refused as of something absent.
-- Assumes nothing.
use Rattle.std.specs.Prelude.{ℕ, ◌≡◌, ◌<◌, Bool, true, false, List}
use Rattle.definition.specs.Form.{Graph, Form}
use Rattle.graph.specs.Seen.{Seen}
use Rattle.reply.specs.declared.Refusal.{Refusal}

-- n is the number b that the call names; it is within the limit, and of each graph that the cells show the definition says that it is there
pub record Found (gl : List ℕ) (b limit n : ℕ) (missing : Graph → Form → ℕ → Bool) : Type 0 where
  pub same : n ≡ b
  pub small : n < limit
  pub there : (g : Graph) → (s : Form) → Seen gl g → missing g s n ≡ false

-- of each graph that the cells show the definition says that b is not there
pub record Lost (gl : List ℕ) (b : ℕ) (e : Refusal) (missing : Graph → Form → ℕ → Bool) : Type 0 where
  pub absent : e ≡ Refusal.Absent
  pub missed : (g : Graph) → (s : Form) → Seen gl g → missing g s b ≡ true
