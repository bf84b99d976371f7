-- Whether a variable has a definition in one of the first blocks, and that each of these definitions can be read: a block among them is one that is there.
-- Assumes nothing.
use Prim.Native.Nat.{ℕ, ◌<◌}
use mathlib.Core.Bool.{Bool}
use mathlib.Core.List.{List}
use native.Mathlib.Nat.{le_trans}
use Rattle.definition.specs.Base.{is_some, any, up_from}
use Rattle.definition.specs.Form.{Form, def}
use Rattle.form.specs.Can.{HasDef, HasDefs}

-- in one of n blocks
abbrev pub defined : Form → ℕ → ℕ → Bool
defined s v n = any (λ b. is_some (def s v b)) (up_from 0 n)

pub has_def : {l : List ℕ} {v n b : ℕ} {s : Form} → HasDefs l v n s → b < n → HasDef l v b s
has_def p lt = record { cells = p.cells; var = p.var; known = le_trans lt p.known }
