-- What the functions promise: pieces of text in the buffer, as far as that has room.
-- Assumes nothing.
use Rattle.std.specs.Prelude.{ℕ, ◌+◌, ◌*◌, ◌^◌, ◌≡◌, List, length}
use Rattle.std.proofs.lemmas.List.Edits.{sets}
use Rattle.lines.specs.declared.pen.Pen.{Pen}
use Rattle.entity.specs.Limits.{limits, param_room}

-- the piece was stored from place a on, byte after byte and none past the buffer's end; r is the place after it
pub record Wrote (before : List ℕ) (a : ℕ) (piece after : List ℕ) (r : ℕ) : Type 0 where
  pub end : r ≡ a + length piece
  pub out : after ≡ sets before a piece

-- a pen wrote the piece into its buffer, and is behind it
pub record Writes (before : Pen) (piece : List ℕ) (after : Pen) : Type 0 where
  pub wrote : Wrote before.out.now before.at piece after.out.now after.at
  pub same_buffer : after.out.ghost_name ≡ before.out.ghost_name

-- more bytes than a line of a picture has; all that matters is that sums of them fit a usize
abbrev pub line_most : ℕ
line_most = (param_room limits + 3) * 2 ^ 33
