-- Tables one after the other in lent cells. A table says what number each of its cells holds.
-- Assumes nothing.
use Rattle.std.specs.Prelude.{ℕ, zero, suc, ◌+◌, ◌/◌, ◌%◌, ◌≤◌, ◌<◌}
use Rattle.std.specs.Prelude.{◌≡◌, List, [], ◌∷◌, ◌++◌, cond, ltb, length, get_or, take}

abbrev pub Table : Type 0
Table = ℕ → ℕ

abbrev pub blank : Table
blank j = 0

abbrev pub sum : List ℕ → ℕ
sum [] = 0
sum (n ∷ ns) = n + sum ns

-- where table t starts, when the tables have these sizes
abbrev pub base : List ℕ → ℕ → ℕ
base sizes t = sum (take t sizes)

-- the first n cells of a table, written out
unfoldable pub line : ℕ → Table → List ℕ
line zero f = []
line (suc n) f = f 0 ∷ line n (λ j. f (suc j))

-- the tables in turn, each written out to its size
unfoldable pub render : List ℕ → List Table → List ℕ
render [] tables = []
render (n ∷ ns) [] = line n blank ++ render ns []
render (n ∷ ns) (f ∷ fs) = line n f ++ render ns fs

-- The cells hold these tables; there may be more cells. Of exactly the length there is one such list: `render sizes tables`.
pub record Holds (sizes cells : List ℕ) (tables : List Table) : Type 0 where
  pub long : sum sizes ≤ length cells
  pub at : (t j : ℕ) → j < get_or sizes t 0 → get_or cells (base sizes t + j) 0 ≡ get_or tables t blank j

-- a table of rows of w cells
abbrev pub grid : ℕ → (ℕ → Table) → Table
grid w f j = f (j / w) (j % w)

-- a row that holds a list: its count, its entries, zeros
abbrev pub cell : List ℕ → Table
cell xs i = get_or (length xs ∷ xs) i 0

-- a table of such rows
abbrev pub rows : ℕ → (ℕ → List ℕ) → Table
rows w f = grid w (λ r. cell (f r))

-- f below n, zeros from there on
abbrev pub upto : ℕ → Table → Table
upto n f j = cond (ltb j n) (f j) 0
