-- Resolving an alias over any list of targets: follow targets until a value that is its own target.
-- Assumes nothing.
use Rattle.std.specs.Prelude.{ℕ, ◌<◌, ◌≤◌, ◌≡◌, List, map, length, get_or}
use Rattle.definition.specs.Base.{up_from}
use Rattle.definition.specs.Form.{Form}

-- the walk from x stays in the list and ends at y
pub data Ends (ts : List ℕ) : ℕ → ℕ → Type 0 where
  here : {x : ℕ} → x < length ts → get_or ts x 0 ≡ x → Ends ts x x
  on : {x y : ℕ} → x < length ts → Ends ts (get_or ts x 0) y → Ends ts x y

-- the answer's code and number: x is past the list; the walk ends at y; it leaves the list or never ends
pub data Resolved (ts : List ℕ) (x : ℕ) : ℕ → ℕ → Type 0 where
  past : length ts ≤ x → Resolved ts x 6 0
  ends : {y : ℕ} → Ends ts x y → Resolved ts x 0 y
  lost : x < length ts → ((y : ℕ) → Ends ts x y → ⊥) → Resolved ts x 14 0

-- the targets of all values of a form
abbrev pub targets : Form → List ℕ
targets s = map s.target (up_from 0 s.next)
