-- What looking a variable up asks of the lent cells, and what it leaves in them: the machine's configuration after one visit of a block.
-- Assumes nothing.
use Rattle.std.specs.Prelude.{ℕ, ◌+◌, ◌≤◌, ◌<◌, ◌≡◌, false, List, [], length}
use Rattle.std.proofs.Math.Option.{Option, none, some}
use Rattle.entity.specs.declared.Block.{Block}
use Rattle.entity.specs.declared.Value.{Value}
use Rattle.entity.specs.Limits.{limits, value_room, wait_room, param_room, call_room, result_room}
use Rattle.definition.specs.Form.{Graph, Form, def}
use Rattle.definition.specs.Read.{type_of}
use Rattle.meaning.specs.Machine.{Task, find, visit}
use Rattle.layout.specs.declared.Counts.{Counts}
use Rattle.layout.specs.Layout.{Shows, Stacks, Shown}
use Rattle.graph.specs.Seen.{Seen}
use Rattle.lookup.specs.Walk.{whole_walk}

-- there are a graph, a form and stacks such that
abbrev pub AllWith : (Graph → Form → List Task → List ℕ → Type 0) → Type 0
AllWith P = (g : Graph) × (s : Form) × (ts : List Task) × (rs : List ℕ) × P g s ts rs

-- there are a graph and stacks such that
abbrev pub BeginWith : (Graph → List Task → List ℕ → Type 0) → Type 0
BeginWith P = (g : Graph) × (ts : List Task) × (rs : List ℕ) × P g ts rs

-- the predecessors of b can be scheduled, and the call that settles its parameter x
pub record CanBegin (gl wl : List ℕ) (c : Counts) (x b : ℕ) (g : Graph) (ts : List Task) (rs : List ℕ) : Type 0 where
  pub seen : Seen gl g
  pub stacks : Stacks wl c ts rs
  pub known : b < limits.blocks
  pub small : x < value_room limits
  pub room : length (g.preds b) + length ts < call_room limits

-- block d can get a parameter
pub record Open (g : Graph) (s : Form) (ts : List Task) (d : ℕ) : Type 0 where
  pub next : s.next < value_room limits
  pub params : length (s.params d) < param_room limits
  pub waits : length (s.pending d) < wait_room limits
  pub calls : length (g.preds d) + length ts < call_room limits

-- the machine can look v up: each block without a definition of it can get a parameter
pub record Ready (g : Graph) (v : ℕ) (s : Form) (ts : List Task) (rs : List ℕ) : Type 0 where
  pub opens : (d : ℕ) → d < g.blocks → def s v d ≡ none → Open g s ts d
  pub results : length rs < result_room limits
  pub fresh : s.target s.next ≡ s.next
  pub unrecorded : s.recorded s.next ≡ false
  pub few : s.next ≤ value_room limits
  pub defs : (w d x : ℕ) → def s w d ≡ some x → x < s.next

pub record CanUse (gl fl wl : List ℕ) (c : Counts) (v ty b : ℕ) (g : Graph) (s : Form) (ts : List Task) (rs : List ℕ) : Type 0 where
  pub seen : Seen gl g
  pub call : c.call ≡ g.call
  pub shows : Shows fl c s
  pub stacks : Stacks wl c ts rs
  pub var : v < length g.types
  pub type : ty ≡ type_of g v
  pub known : b < g.blocks
  pub ready : Ready g v s ts rs

-- and b has no definition of v
pub record CanFind (gl fl wl : List ℕ) (c : Counts) (v ty b : ℕ) (g : Graph) (s : Form) (ts : List Task) (rs : List ℕ) : Type 0 where
  pub asks : CanUse gl fl wl c v ty b g s ts rs
  pub lacks : def s v b ≡ none

-- what a walk met; else the parameter to be made
abbrev pub found : Form → Option ℕ → ℕ
found s (some x) = x
found s none = s.next

-- what is found in or for b and where it comes from, and the cells before it is copied back to the blocks passed: none of them is marked
pub record Finds (fl wl : List ℕ) (n : ℕ) (r : Value × Block × Counts) (v b : ℕ) (g : Graph) (s : Form) (ts : List Task) (rs : List ℕ) : Type 0 where
  pub from : r.1.0 ≡ (whole_walk g v b s).end
  pub val : r.0.0 ≡ found s (whole_walk g v b s).met
  pub call : r.2.call ≡ n
  pub shown : Shown fl wl r.2 (find g v ts rs s [] (whole_walk g v b s).end (whole_walk g v b s).met)

-- the cells after v was visited in b, and the counts r; the call's number n is unchanged
pub record Visits (fl wl : List ℕ) (n : ℕ) (r : Counts) (v b : ℕ) (g : Graph) (s : Form) (ts : List Task) (rs : List ℕ) : Type 0 where
  pub call : r.call ≡ n
  pub shown : Shown fl wl r (visit g v b ts rs s (def s v b))
