-- What the lent cells say of a picture, whatever they hold.
-- Assumes nothing.
use Rattle.std.specs.Prelude.{ℕ, List, [], if◌then◌else◌}
use Rattle.definition.specs.Form.{Graph, Form}
use Rattle.layout.specs.Rows.{entries}
use Rattle.lines.specs.Text.{Picture}
use Rattle.drawable.specs.Fits.{params_at, dests_at, args_at, blocks, branches}

module _ (graph form : List ℕ) where
  abbrev pub seen : Picture
  seen = record {
    blocks = blocks graph;
    params = λ b. entries form (params_at b);
    dests = λ b. if branches graph b then entries graph (dests_at b) else [];
    args = λ b i. entries form (args_at b i);
  }

-- what is drawn of a session's state
abbrev pub state_picture : Graph → Form → Picture
state_picture g s = record { blocks = g.blocks; params = s.params; dests = λ b. if g.branch b then g.dests b else []; args = s.args }
