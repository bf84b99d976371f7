-- The last results on their stack, the oldest first: a stack read from its bottom is the list reversed, so the last n of it are the first n reversed.
-- Assumes nothing.
use Prim.Native.Nat.{ℕ, ◌+◌, ◌-◌, ◌≤◌, ◌<◌}
use mathlib.Core.Path.{◌≡◌, sym, ap, ◌∙◌}
use mathlib.Core.List.{List, ◌++◌, reverse, reverse-append}
use native.Mathlib.Omega.{arith}
use lib.ListN.{length, get_or, take, drop, length-reverse, length-drop, take-append-drop}
use lib.Seq.{get_or-append-add}
use Rattle.entity.specs.Limits.{limits, result_room}
use Rattle.meaning.specs.Machine.{Task}
use Rattle.layout.specs.declared.Counts.{Counts}
use Rattle.layout.specs.Cells.{base}
use Rattle.layout.specs.Layout.{work_sizes, Stacks}

reverse_lasts : (n : ℕ) (xs : List ℕ) (i : ℕ) → get_or (reverse xs) (length xs - n + i) 0 ≡ get_or (reverse (take n xs)) i 0
reverse_lasts n xs i =
    let e : reverse xs ≡ reverse (drop n xs) ++ reverse (take n xs) = ap reverse (sym (take-append-drop n xs)) ∙ reverse-append (take n xs) (drop n xs) in
    let f : length xs - n ≡ length (reverse (drop n xs)) = sym (length-reverse (drop n xs) ∙ length-drop n xs) in
    rw (e, f) (get_or-append-add (reverse (drop n xs)) (reverse (take n xs)) i 0)

-- the i-th of the last n results
pub last_result : (l : List ℕ) (c : Counts) (ts : List Task) (rs : List ℕ) → Stacks l c ts rs → length rs ≤ result_room limits → (n i : ℕ) → n ≤ length rs → i < n
    → get_or l (base work_sizes 2 + (c.results - n + i)) 0 ≡ get_or (reverse (take n rs)) i 0
last_result l c ts rs s high n i le lt = rw s.results (s.cells.held (length rs - n + i) (omega arith) (omega arith) ∙ reverse_lasts n rs i)
