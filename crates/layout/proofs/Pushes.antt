-- A push to a table that is one row, and to one row of a table of rows: that row has one entry more, and all else is as it was.
-- Assumes nothing.
use Prim.Native.Nat.{ℕ, ◌+◌, ◌*◌, ◌<◌, ◌≤◌}
use mathlib.Core.Path.{◌≡◌}
use mathlib.Core.Logic.{◌≢◌}
use mathlib.Core.List.{List, [], ◌∷◌, ◌++◌}
use native.Mathlib.Omega.{arith}
use lib.ListN.{length, get_or, set}
use Rattle.entity.specs.Limits.{limits, zero_room}
use Rattle.layout.specs.Cells.{Table, blank, base, Holds, cell, rows}
use Rattle.layout.specs.Rows.{Row, Pushable, pushed}
use Rattle.layout.proofs.Rows.{row_pushable, row_pushed}
use Rattle.layout.proofs.Grids.{row_of, row_changed, row_among, rows_changed}

module _ (sizes l : List ℕ) (M : List Table) (t : ℕ) (h : Holds sizes l M) where
  module _ (xs : List ℕ) (is : get_or M t blank ≡ cell xs) (room : length xs + 1 < get_or sizes t 0) where
    the_row : Row l (base sizes t) (get_or sizes t 0) xs
    the_row = row_of sizes l M t h xs is (omega arith)

    pub row_can_push : length xs < zero_room limits → Pushable l (base sizes t)
    row_can_push few = row_pushable l (base sizes t) (get_or sizes t 0) xs the_row room few

    pub row_more : (x : ℕ) → t < length M → Holds sizes (pushed l (base sizes t) x) (set M t (cell (xs ++ x ∷ [])))
    row_more x lt = row_changed sizes l M t h (pushed l (base sizes t) x) (xs ++ x ∷ []) lt (row_pushed l (base sizes t) (get_or sizes t 0) xs the_row x room)

  module _ (w : ℕ) (f : ℕ → List ℕ) (c : ℕ) (is : get_or M t blank ≡ rows w f) (whole : c * w + w ≤ get_or sizes t 0) (room : length (f c) + 1 < w) where
    one_row : Row l (base sizes t + c * w) w (f c)
    one_row = row_among sizes l M t h w f c is whole (omega arith)

    pub rows_can_push : length (f c) < zero_room limits → Pushable l (base sizes t + c * w)
    rows_can_push few = row_pushable l (base sizes t + c * w) w (f c) one_row room few

    pub rows_more : (x : ℕ) (f' : ℕ → List ℕ) → t < length M → f' c ≡ f c ++ x ∷ [] → ((b : ℕ) → b ≢ c → f' b ≡ f b)
        → Holds sizes (pushed l (base sizes t + c * w) x) (set M t (rows w f'))
    rows_more x f' lt on off =
        rows_changed sizes l M t h w f c is whole (pushed l (base sizes t + c * w) x) f' (omega arith) lt (rw on (row_pushed l (base sizes t + c * w) w (f c) one_row x room)) off
