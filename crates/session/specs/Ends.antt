-- What a whole session promises of any lists: `outcome`, of every list that it is lent.
-- Assumes nothing.
use Rattle.std.specs.Prelude.{ℕ, ◌≡◌, List}
use Rattle.definition.specs.Whole.{Lengths}
use Rattle.layout.specs.Outcome.{Lent, SameLists, outcome}

abbrev pub long : ℕ → ℕ → ℕ → ℕ → ℕ → Lengths
long codes numbers graph form work = record { codes = codes; numbers = numbers; graph = graph; form = form; work = work }

-- The promise: the answer r and the lists after it are the outcome of the calls on the lists before it.
pub record Ended (ks xs ys zs : List ℕ) (before after : Lent) (r : ℕ) : Type 0 where
  pub answer : r ≡ (outcome ks xs ys zs before).0
  pub leaves : SameLists after (outcome ks xs ys zs before).1
