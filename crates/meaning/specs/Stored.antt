-- Every number that a table holds names something that is there. Assumes nothing.
use Rattle.std.specs.Prelude.{ℕ, ◌<◌, ◌≤◌, ◌≡◌, true, false, List, [], ◌∷◌, length}
use Rattle.std.proofs.Math.Option.{some}
use Rattle.entity.specs.Types.{type_count}
use Rattle.definition.specs.Base.{Block, Variable, Value}
use Rattle.definition.specs.Form.{Graph, Form}
use Rattle.definition.specs.Read.{type_of}
use Rattle.meaning.specs.Path.{In}

-- nothing stands in the list twice
abbrev pub Nodup : List ℕ → Type 0
Nodup [] = Unit {0}
Nodup (x ∷ l) = (In x l → ⊥) × Nodup l

pub record Stored (g : Graph) (s : Form) : Type 0 where
  -- last definitions: of a variable, in a block, a value; at its beginning, and its own
  pub entry : (v : Variable) (b : Block) (x : Value) → s.entry v b ≡ some x → (v < length g.types) × (b < g.blocks) × (x < s.next)
  pub own : (v : Variable) (b : Block) (x : Value) → s.own v b ≡ some x → (v < length g.types) × (b < g.blocks) × (x < s.next)
  -- a block's parameters, and the variables that wait there, each with its parameter
  pub params : (b : Block) (x : Value) → In x (s.params b) → (b < g.blocks) × (x < s.next)
  pub waits : (b : Block) (w : Variable × Value) → In w (s.pending b) → (w.0 < length g.types) × (b < g.blocks) × (w.1 < s.next)
  -- arguments stand at a destination of a branch
  pub args : (p : Block) (i : ℕ) (x : Value) → In x (s.args p i) → (p < g.blocks) × (i < length (g.dests p)) × (x < s.next)
  -- a predecessor's branch names the block
  pub preds : (b p : Block) → In p (g.preds b) → (b < g.blocks) × (p < g.blocks) × In b (g.dests p)
  pub dests : (p b : Block) → In b (g.dests p) → (p < g.blocks) × (b < g.blocks)
  pub branches : (p : Block) → g.branch p ≡ true → p < g.blocks
  -- nothing waits in a sealed block
  pub sealed : (b : Block) → g.sealed b ≡ true → b < g.blocks
  pub settled : (b : Block) → g.sealed b ≡ true → s.pending b ≡ []
  -- the types of the variables, and which are marked
  pub types : (v : Variable) → v < length g.types → type_of g v < type_count
  pub marks : (v : Variable) → g.marks v ≡ true → v < length g.types
  -- values: their targets, what they are; past them nothing is an alias or recorded for stack maps
  pub targets : (x : Value) → x < s.next → s.target x < s.next
  pub unused : (x : Value) → s.next ≤ x → s.target x ≡ x
  pub unrecorded : (x : Value) → s.next ≤ x → s.recorded x ≡ false
  pub info : (x : Value) → x < s.next → ((s.info x).home < g.blocks) × ((s.info x).type < type_count)
  -- the zero log: a call, at most the present one, and a block
  pub zeros : (z : ℕ × Block) → In z s.zeros → (z.0 ≤ g.call) × (z.1 < g.blocks)
  -- blocks placed, each once
  pub placed : (b : Block) → In b s.placed → b < g.blocks
  pub once : Nodup s.placed
