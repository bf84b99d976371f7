-- Every call gets one answer, and a refused call changes nothing else. Assumes nothing.
use Rattle.std.specs.Prelude.{suc, ◌≡◌, ◌≢◌}
use Rattle.definition.specs.Base.{◌∷ʳ◌}
use Rattle.definition.specs.Session.{Call, Done, State, tick}

-- The call c leads from t to u.
pub record Answered (t : State) (c : Call) (u : State) : Type 0 where
  -- its answer stands behind the others, and the call is counted
  pub answer : Done
  pub asked : answer.asked ≡ c
  pub done : u.done ≡ t.done ∷ʳ answer
  pub counted : u.graph.call ≡ suc t.graph.call
  -- where it is refused, its number is 0 and all else is as it was
  pub refused : answer.code ≢ 0 → (answer.number ≡ 0) × (u.form ≡ t.form) × (u.graph ≡ tick t.graph)
