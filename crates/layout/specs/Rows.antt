-- What small functions do to the row that starts at cell a: its count stands at a, its entries from a + 1 on.
-- Assumes nothing.
use Rattle.std.specs.Prelude.{ℕ, zero, suc, ◌+◌, ◌-◌, ◌<◌, ◌≤◌, ◌≡◌, cond, List, eqb, length, get_or, set, take, drop}
use Rattle.entity.specs.Limits.{limits, zero_room}
use Rattle.layout.specs.Cells.{cell}

-- the w cells from a on are the row of xs
pub record Row (cells : List ℕ) (a w : ℕ) (xs : List ℕ) : Type 0 where
  pub fits : a + w ≤ length cells
  pub at : (i : ℕ) → i < w → get_or cells (a + i) 0 ≡ cell xs i
  pub few : length xs < w

-- the entries are in the cells, no more than the longest row has
pub record Readable (cells : List ℕ) (a : ℕ) : Type 0 where
  pub there : a + get_or cells a 0 < length cells
  pub few : get_or cells a 0 ≤ zero_room limits

-- and so is the cell after them
pub record Pushable (cells : List ℕ) (a : ℕ) : Type 0 where
  pub room : a + 1 + get_or cells a 0 < length cells
  pub few : get_or cells a 0 < zero_room limits

-- its entries, as many as the count says
abbrev pub entries : List ℕ → ℕ → List ℕ
entries cells a = take (get_or cells a 0) (drop (a + 1) cells)

-- one entry more
abbrev pub pushed : List ℕ → ℕ → ℕ → List ℕ
pushed cells a x = set (set cells (a + 1 + get_or cells a 0) x) a (get_or cells a 0 + 1)

-- the last entry moves into place k
abbrev pub swapped : List ℕ → ℕ → ℕ → List ℕ
swapped cells a k =
    let n = get_or cells a 0 in
    set (set (set cells (a + 1 + k) (get_or cells (a + n) 0)) (a + n) 0) a (n - 1)

-- The rest are loops: m entries are left, from the one at i on.

-- the place of the first x, the count if there is none
unfoldable pub seek : List ℕ → ℕ → ℕ → ℕ → ℕ → ℕ
seek cells a x zero i = i
seek cells a x (suc m) i = cond (eqb x (get_or cells (a + 1 + i) 0)) i (seek cells a x m (i + 1))

-- entries equal to x leave, the others keep their order; k were kept
unfoldable pub sift : ℕ → ℕ → ℕ → ℕ → ℕ → List ℕ → List ℕ
sift a x zero i k cells = set cells a k
sift a x (suc m) i k cells =
    let y = get_or cells (a + 1 + i) 0 in
    let cleared = set cells (a + 1 + i) 0 in
    cond (eqb y x) (sift a x m (i + 1) k cleared) (sift a x m (i + 1) (k + 1) (set cleared (a + 1 + k) y))

-- all leave
unfoldable pub wipe : ℕ → ℕ → ℕ → List ℕ → List ℕ
wipe a zero i cells = set cells a 0
wipe a (suc m) i cells = wipe a m (i + 1) (set cells (a + 1 + i) 0)
