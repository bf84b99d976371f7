-- What holds of the graph and the form after every list of calls, and at every moment of a use and of a seal. Assumes nothing.
use Rattle.std.specs.Prelude.{◌<◌}
use Rattle.definition.specs.Base.{Value}
use Rattle.definition.specs.Form.{Graph, Form}
use Rattle.definition.specs.Read.{resolve}
use Rattle.definition.specs.Resolve.{Resolved, targets}
use Rattle.meaning.specs.Rooms.{Rooms}
use Rattle.meaning.specs.Stored.{Stored}
use Rattle.meaning.specs.Own.{OwnFirst}
use Rattle.meaning.specs.Causes.{Once}
use Rattle.meaning.specs.Enough.{Enough}

pub record Holds (g : Graph) (s : Form) : Type 0 where
  -- no table needs more than its room
  pub rooms : Rooms g s
  -- every number that a table holds names something that is there
  pub stored : Stored g s
  -- a caller's parameters stand first and stay
  pub own : OwnFirst s
  -- a variable causes at most one parameter and one zero per block, the zero in at most two steps
  pub once : Once g s
  -- every chain of aliases ends, and the definition resolves as the public resolving does
  pub chains : (x : Value) → x < s.next → Resolved (targets s) x 0 (resolve s x)
  -- a greater depth of reading, a longer walk, more links change nothing
  pub enough : Enough g s
