-- What the functions ask of the lent cells: that they show a graph that is sound and within the limits, as every session's graph is.
-- Assumes nothing.
use Rattle.std.specs.Prelude.{ℕ, ◌<◌, ◌≡◌, true, false, List, length}
use Rattle.entity.specs.Limits.{limits}
use Rattle.definition.specs.Base.{has}
use Rattle.definition.specs.Form.{Graph}
use Rattle.meaning.proofs.Ranges.{Bounds}
use Rattle.meaning.proofs.Reading.{Sound}
use Rattle.layout.specs.Cells.{Holds}
use Rattle.layout.specs.Layout.{graph_sizes, graph_tables}
use Rattle.layout.specs.Starts.{dests_at, preds_at}

-- there is a graph such that
abbrev pub GraphWith : (Graph → Type 0) → Type 0
GraphWith P = (g : Graph) × P g

abbrev pub Shown : List ℕ → Graph → Type 0
Shown lent g = Holds graph_sizes lent (graph_tables g)

pub record Seen (lent : List ℕ) (g : Graph) : Type 0 where
  pub cells : Shown lent g
  pub bounds : Bounds g
  pub sound : Sound g

-- and there is room for one more variable; for one more destination of branch p
pub record CanDeclareVariable (lent : List ℕ) (g : Graph) : Type 0 where
  pub seen : Seen lent g
  pub room : length g.types < limits.variables

pub record CanDeclareDest (lent : List ℕ) (p : ℕ) (g : Graph) : Type 0 where
  pub seen : Seen lent g
  pub room : length (g.dests p) < limits.dests

-- branch p is not yet declared to block b; it is
pub record CanDeclarePredecessor (lent : List ℕ) (b p : ℕ) (g : Graph) : Type 0 where
  pub seen : Seen lent g
  pub new : has p (g.preds b) ≡ false

pub record CanRemovePredecessor (lent : List ℕ) (b p : ℕ) (g : Graph) : Type 0 where
  pub seen : Seen lent g
  pub there : has p (g.preds b) ≡ true

-- where the row of a branch's destinations starts, and that of a block's predecessors
abbrev pub dests_start : ℕ → ℕ
dests_start = dests_at

abbrev pub preds_start : ℕ → ℕ
preds_start = preds_at
