-- What a drawing answers, and what it leaves in the buffer.
-- Assumes nothing.
use Rattle.std.specs.Prelude.{ℕ, ◌≡◌, not, ◌||◌, List, ◌++◌, length, drop, if◌then◌else◌, Result, Ok, Err}
use Rattle.entity.specs.Limits.{limits, graph_need, form_need}
use Rattle.definition.specs.Base.{◌=?◌, ◌<?◌}
use Rattle.lines.specs.Text.{text}
use Rattle.drawable.specs.Fits.{drawable}
use Rattle.draw.specs.Seen.{seen}
use Rattle.draw.specs.declared.Undrawn.{Undrawn}
use Rattle.draw.specs.declared.Undrawn.TheVariants.{Short, NoRoom, NotDrawable}

-- the code of a refusal
abbrev pub undrawn_code : Undrawn → ℕ
undrawn_code Short = 1
undrawn_code NoRoom = 15
undrawn_code NotDrawable = 16

-- the code and the length that a result tells: code 0 and the text's length, or the refusal's and 0
abbrev pub told_code : Result ℕ Undrawn → ℕ
told_code (Ok n) = 0
told_code (Err e) = undrawn_code e

abbrev pub told_length : Result ℕ Undrawn → ℕ
told_length (Ok n) = n
told_length (Err e) = 0

module _ (graph form buffer : List ℕ) where
  -- the code: 1 for a table shorter than its need, 16 for tables that can't be drawn, 15 for a buffer shorter than the text
  abbrev pub code_of : ℕ
  code_of =
      if length graph <? graph_need limits || length form <? form_need limits then 1 else
      if not (drawable graph form) then 16 else
      if length buffer <? length (text (seen graph form)) then 15 else
      0

  -- the length answered, and the buffer after a drawing that is answered with this code
  abbrev pub length_with : ℕ → ℕ
  length_with code = if code =? 0 then length (text (seen graph form)) else 0

  abbrev pub buffer_with : ℕ → List ℕ
  buffer_with code = if code =? 0 then text (seen graph form) ++ drop (length (text (seen graph form))) buffer else buffer

-- The promise: code, length and buffer after a drawing.
pub record Draws (graph form before after : List ℕ) (code n : ℕ) : Type 0 where
  pub code_is : code ≡ code_of graph form before
  pub length_is : n ≡ length_with graph form before code
  pub buffer_is : after ≡ buffer_with graph form before code
