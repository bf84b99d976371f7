-- Which way to show a session a number names: 1 words, 2 a picture, any other letters.
-- Assumes nothing.
use Rattle.std.specs.Prelude.{ℕ, if◌then◌else◌, eqb}
use Rattle.program.specs.declared.Show.{Show}
use Rattle.program.specs.declared.Show.TheVariants.{Letters, Words, Picture}

abbrev pub shown_by : ℕ → Show
shown_by n = if eqb n 1 then Words else (if eqb n 2 then Picture else Letters)
