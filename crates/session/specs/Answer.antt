-- The number that stands for what `session` answers: as a host in C gets it, and as the definition has it.
-- Assumes nothing.
use Rattle.std.specs.Prelude.{ℕ, Result, Ok, Err}
use Rattle.session.specs.declared.Unrun.{Unrun}
use Rattle.session.specs.declared.Unrun.TheVariants.{Short, Unfit}

abbrev pub refusal_code : Unrun → ℕ
refusal_code Short = 1
refusal_code Unfit = 2

abbrev pub code_of : {A : Type 0} → Result A Unrun → ℕ
code_of (Ok a) = 0
code_of (Err e) = refusal_code e
