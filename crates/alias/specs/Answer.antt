-- The code and the number that stand for what `resolve` answers: as a host in C gets them, and as the definition has them.
-- Assumes nothing.
use Rattle.std.specs.Prelude.{ℕ, Result, Ok, Err}
use Rattle.entity.specs.declared.Value.{Value}
use Rattle.alias.specs.declared.Unresolved.{Unresolved}
use Rattle.alias.specs.declared.Unresolved.TheVariants.{Absent, Endless}

abbrev pub refusal_code : Unresolved → ℕ
refusal_code Absent = 6
refusal_code Endless = 14

abbrev pub code_of : Result Value Unresolved → ℕ
code_of (Ok y) = 0
code_of (Err e) = refusal_code e

abbrev pub number_of : Result Value Unresolved → ℕ
number_of (Ok y) = y.0
number_of (Err e) = 0
