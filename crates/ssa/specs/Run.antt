-- A run of the machine over the lent cells: one turn, and all of them. What a turn needs, and what is so after it, is said of the definition alone.
-- Assumes nothing.
use Rattle.std.specs.Prelude.{ℕ, ◌<◌, ◌≤◌, ◌≡◌, List, [], ◌∷◌, length}
use Rattle.entity.specs.declared.Value.{Value}
use Rattle.entity.specs.Limits.{limits, call_room}
use Rattle.definition.specs.Form.{Graph, Form}
use Rattle.definition.specs.Read.{type_of}
use Rattle.meaning.specs.Machine.{Task, look, finish, Conf, conf, turn}
use Rattle.meaning.proofs.Heights.{Low}
use Rattle.meaning.proofs.Machine.{Goes}
use Rattle.meaning.proofs.Rooms.{Moment}
use Rattle.layout.specs.declared.Counts.{Counts}
use Rattle.layout.specs.Layout.{Shown}
use Rattle.graph.specs.Seen.{Seen}
use Rattle.lookup.specs.Find.{Ready}
use Rattle.settle.specs.Settle.{Settles}

-- what the call on top asks: a visit or settling
abbrev pub Asks : Graph → ℕ → List Task → List ℕ → Form → Type 0
Asks g v [] rs s = Unit {0}
Asks g v (look p ∷ ts) rs s = (p < g.blocks) × Ready g v s ts rs
Asks g v (finish x b ∷ ts) rs s = Settles g x b s rs

-- The cells show the configuration k of a run for variable v: the next turn can be run, and after it the run is at a moment of which all is known.
-- Other parameters wait for runs of their own.
pub record UnderWay (gl fl wl : List ℕ) (c : Counts) (v ty : ℕ) (g : Graph) (k : Conf) : Type 0 where
  pub seen : Seen gl g
  pub call : c.call ≡ g.call
  pub shown : Shown fl wl c k
  pub var : v < length g.types
  pub type : ty ≡ type_of g v
  pub low : Low g k.tasks
  pub few : length k.tasks ≤ call_room limits
  pub asks : Asks g v k.tasks k.results k.form
  pub others : ℕ → List (ℕ × ℕ)
  pub number : ℕ
  pub after : Moment g v others number (turn g v k.tasks k.results k.form)

-- there are a graph, a task on top, what is below it, and a form such that
abbrev pub TurnWith : (Graph → Task → List Task → List ℕ → Form → Type 0) → Type 0
TurnWith P = (g : Graph) × (q : Task) × (ts : List Task) × (rs : List ℕ) × (s : Form) × P g q ts rs s

-- there are a graph, a configuration, an answer and a form such that
abbrev pub RunWith : (Graph → Conf → ℕ → Form → Type 0) → Type 0
RunWith P = (g : Graph) × (k : Conf) × (x : ℕ) × (s : Form) × P g k x s

-- and the run ends with the answer x and the form s
pub record CanRun (gl fl wl : List ℕ) (c : Counts) (v ty : ℕ) (g : Graph) (k : Conf) (x : ℕ) (s : Form) : Type 0 where
  pub under : UnderWay gl fl wl c v ty g k
  pub goal : Goes g v k (conf [] (x ∷ []) s)

-- the answer is x, both stacks are empty, and the call's number n is unchanged
pub record Ran (fl wl : List ℕ) (n : ℕ) (r : Value × Counts) (x : ℕ) (s : Form) : Type 0 where
  pub call : r.1.call ≡ n
  pub val : r.0.0 ≡ x
  pub shown : Shown fl wl r.1 (conf [] [] s)
