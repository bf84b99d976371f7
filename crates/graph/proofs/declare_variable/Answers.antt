-- `declare_variable` meets its contract: the push changes the row of types alone.
-- Assumes nothing.
use Rattle.graph.proofs.Changes.{variable_room, variable_declared}
use Rattle.graph.proofs.declare_variable.Goals as goal

pub push-requires : goal.push-requires
push-requires c = variable_room c.requires.1

pub returns : goal.returns
returns c = λ g s. rw c.push.ensures (variable_declared s _)
