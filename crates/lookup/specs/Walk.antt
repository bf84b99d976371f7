-- The walk over single predecessors in lent cells, and the way back over the blocks that it passed.
-- Assumes nothing.
use Rattle.std.specs.Prelude.{ℕ, suc, ◌≤◌, ◌<◌, ◌≡◌, List, [], ◌∷◌, length}
use Rattle.std.proofs.Math.Option.{none, some}
use Rattle.entity.specs.Limits.{limits}
use Rattle.entity.specs.Options.{value_of}
use Rattle.definition.specs.Form.{Graph, Form}
use Rattle.definition.specs.Read.{Walk, walk, single}
use Rattle.meaning.specs.Path.{In}
use Rattle.graph.specs.Seen.{Seen}
use Rattle.form.specs.Can.{Cells}
use Rattle.lookup.specs.declared.Stop.{Stop}

-- there are a graph and a form such that
abbrev pub WalkWith : (Graph → Form → Type 0) → Type 0
WalkWith P = (g : Graph) × (s : Form) × P g s

pub record CanWalk (gl fl : List ℕ) (v b : ℕ) (g : Graph) (s : Form) : Type 0 where
  pub seen : Seen gl g
  pub cells : Cells fl s
  pub var : v < limits.variables
  pub known : b < g.blocks

-- the definition's walk from b
abbrev pub whole_walk : Graph → ℕ → ℕ → Form → Walk
whole_walk g v b s = walk (suc g.blocks) g s v [] b

-- where a walk ends, and the definition that it met there
pub record Stops (r : Stop) (w : Walk) : Type 0 where
  pub block : r.block.0 ≡ w.end
  pub value : value_of r.value ≡ w.met

-- the blocks from b on up to the first meeting with `to`, which is left out
pub data Chain (g : Graph) (to : ℕ) : List ℕ → ℕ → Type 0 where
  there : Chain g to [] to
  back : {b p : ℕ} {bs : List ℕ} → (b ≡ to → ⊥) → single g b ≡ some p → Chain g to bs p → Chain g to (b ∷ bs) b

-- there are a graph, a form and a list of blocks such that
abbrev pub CopyWith : (Graph → Form → List ℕ → Type 0) → Type 0
CopyWith P = (g : Graph) × (s : Form) × (bs : List ℕ) × P g s bs

-- none of the blocks bs, on the way from b to `to`, defines v
pub record CanCopy (gl fl : List ℕ) (v b to : ℕ) (g : Graph) (s : Form) (bs : List ℕ) : Type 0 where
  pub seen : Seen gl g
  pub cells : Cells fl s
  pub var : v < limits.variables
  pub chain : Chain g to bs b
  pub few : length bs ≤ limits.blocks
  pub bare : (d : ℕ) → In d bs → s.own v d ≡ none
