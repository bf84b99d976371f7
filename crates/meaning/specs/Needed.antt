-- Demand 3 without one of its suppositions.
-- Assumes nothing.
use Rattle.std.specs.Prelude.{ℕ, ◌≢◌, Bool, ◌&&◌, ◌||◌, List, eqb}
use Rattle.definition.specs.Session.{Call, State, session}
use Rattle.meaning.specs.Path.{AllSealed, NoneEnters0, AllDeclared, OwnValues, OwnArgs, Right}
use Rattle.meaning.specs.Suppositions.{all_sealed?, none_enters_0?, all_declared?, own_values?, own_args?}

-- the suppositions, counted from 1, but the one at k
pub record SupposedBut (k : ℕ) (t : State) : Type 0 where
  pub all_sealed : k ≢ 1 → AllSealed t
  pub none_enters_0 : k ≢ 2 → NoneEnters0 t
  pub all_declared : k ≢ 3 → AllDeclared t
  pub own_values : k ≢ 4 → OwnValues t
  pub own_args : k ≢ 5 → OwnArgs t

abbrev pub supposed_but? : ℕ → State → Bool
supposed_but? k t =
    (eqb k 1 || all_sealed? t) && (eqb k 2 || none_enters_0? t) && (eqb k 3 || all_declared? t) && (eqb k 4 || own_values? t) && (eqb k 5 || own_args? t)

abbrev pub Demand3But : ℕ → Type 1
Demand3But k = (cs : List Call) → SupposedBut k (session cs) → Right (session cs)
