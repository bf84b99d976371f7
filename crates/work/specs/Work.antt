-- What the functions over the two stacks ask. Each asks it of some stacks that the cells show, and gives its answer for all of them.
-- Assumes nothing.
use Rattle.std.specs.Prelude.{ℕ, ◌≤◌, ◌<◌, List, ◌∷◌, reverse, length, take}
use Rattle.entity.specs.Limits.{limits, call_room, result_room}
use Rattle.meaning.specs.Machine.{Task}
use Rattle.layout.specs.declared.Counts.{Counts}
use Rattle.layout.specs.Layout.{Stacks}

-- there are stacks such that
abbrev pub Some : (List Task → List ℕ → Type 0) → Type 0
Some P = (ts : List Task) × (rs : List ℕ) × P ts rs

-- one more call can be scheduled
pub record CanCall (cells : List ℕ) (c : Counts) (ts : List Task) (rs : List ℕ) : Type 0 where
  pub stacks : Stacks cells c ts rs
  pub room : length ts < call_room limits

-- q is the call scheduled last
pub record CanPop (cells : List ℕ) (c : Counts) (q : Task) (ts : List Task) (rs : List ℕ) : Type 0 where
  pub stacks : Stacks cells c (q ∷ ts) rs
  pub room : length ts < call_room limits

-- one more result can be held
pub record CanAnswer (cells : List ℕ) (c : Counts) (ts : List Task) (rs : List ℕ) : Type 0 where
  pub stacks : Stacks cells c ts rs
  pub room : length rs < result_room limits

-- the last n results can be read
pub record CanTake (cells : List ℕ) (c : Counts) (n : ℕ) (ts : List Task) (rs : List ℕ) : Type 0 where
  pub stacks : Stacks cells c ts rs
  pub enough : n ≤ length rs
  pub height : length rs ≤ result_room limits

-- the last n results, the oldest first: as the machine hands them to `settle`
abbrev pub lasts : ℕ → List ℕ → List ℕ
lasts n rs = reverse (take n rs)
