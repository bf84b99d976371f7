-- Which values are recorded for stack maps, by the cells of their descriptions, one for each value.
-- Assumes nothing.
use Rattle.std.specs.Prelude.{ℕ, suc, ◌≡◌, Bool, Option, Some, None, List, [], ◌∷◌, length, get_or, if◌then◌else◌}
use Rattle.entity.specs.Described.{mark_of}
use Rattle.definition.specs.Base.{◌=?◌, ◌<?◌}
use Rattle.definition.specs.Session.{bit}

abbrev pub marked : ℕ → Bool
marked cell = mark_of cell =? 1

-- code and number: 0 and whether value x is recorded, 1 or 0; 6 and 0 if the table has no such value
abbrev pub recorded_of : List ℕ → ℕ → ℕ × ℕ
recorded_of t x = if x <? length t then (0, bit (marked (get_or t x 0))) else (6, 0)

pub record IsRecorded (t : List ℕ) (x code number : ℕ) : Type 0 where
  pub code_is : code ≡ (recorded_of t x).0
  pub number_is : number ≡ (recorded_of t x).1

-- the code and the number that stand for what `recorded` answers
abbrev pub mark_code : Option Bool → ℕ
mark_code (Some z) = 0
mark_code None = 6

abbrev pub mark_number : Option Bool → ℕ
mark_number (Some z) = bit z
mark_number None = 0

-- the first recorded one of these values, which are numbered from x on; if there is none, the number after the last
abbrev pub next_of : ℕ → List ℕ → ℕ
next_of x [] = x
next_of x (c ∷ cs) = if marked c then x else next_of (suc x) cs
