-- What the functions over the form's cells ask. Each asks it of some form that the cells show, and gives its answer for every such form.
-- Assumes nothing.
use Rattle.std.specs.Prelude.{ℕ, suc, ◌≤◌, ◌<◌, ◌≡◌, false, List, [], ◌∷◌, ◌++◌, length}
use Rattle.std.proofs.Math.Option.{none}
use Rattle.entity.specs.Limits.{limits, value_room, zero_room, wait_room, param_room, pred_room}
use Rattle.definition.specs.Base.{has}
use Rattle.definition.specs.Form.{Form}
use Rattle.definition.specs.Read.{write, mark_one, set_pending}
use Rattle.layout.specs.declared.Counts.{Counts}
use Rattle.layout.specs.Cells.{Holds}
use Rattle.layout.specs.Layout.{firsts, form_sizes, form_tables, Shows}

-- the cells show the form; `Shows` says besides that the counts fit it
abbrev pub Cells : List ℕ → Form → Type 0
Cells lent s = Holds form_sizes lent (form_tables s)

-- there is a form such that
abbrev pub Ex : (Form → Type 0) → Type 0
Ex P = (s : Form) × P s

-- ---- values

-- there is room for the next value, and it is no alias yet, nor recorded for stack maps
pub record CanMake (lent : List ℕ) (c : Counts) (s : Form) : Type 0 where
  pub shows : Shows lent c s
  pub room : s.next < value_room limits
  pub fresh : s.target s.next ≡ s.next
  pub unrecorded : s.recorded s.next ≡ false

-- the caller may make one more
pub record CanCount (lent : List ℕ) (s : Form) : Type 0 where
  pub cells : Cells lent s
  pub room : s.makes < limits.made

-- x is a value
pub record HasValue (lent : List ℕ) (x : ℕ) (s : Form) : Type 0 where
  pub cells : Cells lent s
  pub there : x < s.next
  pub room : s.next ≤ value_room limits

-- ---- parameters and arguments

pub record CanAppend (lent : List ℕ) (c : Counts) (b : ℕ) (s : Form) : Type 0 where
  pub make : CanMake lent c s
  pub known : b < limits.blocks
  pub row : length (s.params b) < param_room limits

pub record HasParams (lent : List ℕ) (b : ℕ) (s : Form) : Type 0 where
  pub cells : Cells lent s
  pub known : b < limits.blocks
  pub few : length (s.params b) ≤ param_room limits

-- there is a parameter at place i
pub record HasParam (lent : List ℕ) (b i : ℕ) (s : Form) : Type 0 where
  pub params : HasParams lent b s
  pub there : i < length (s.params b)

-- x is the first of the last n parameters of b: those before it are settled, and it is the next to be
pub record NextParam (lent : List ℕ) (b n x : ℕ) (s : Form) : Type 0 where
  pub params : HasParams lent b s
  pub before : List ℕ
  pub after : List ℕ
  pub split : s.params b ≡ before ++ x ∷ after
  pub count : n ≡ suc (length after)

-- b's count of caller's parameters can be read
pub record HasOwns (lent : List ℕ) (b : ℕ) (s : Form) : Type 0 where
  pub cells : Cells lent s
  pub known : b < limits.blocks

-- the caller may give b one more
pub record CanOwn (lent : List ℕ) (b : ℕ) (s : Form) : Type 0 where
  pub owns : HasOwns lent b s
  pub room : s.owns b < limits.own_params

-- i is a place for a destination of the branch of p, whose arguments can be counted
pub record HasArgs (lent : List ℕ) (p i : ℕ) (s : Form) : Type 0 where
  pub cells : Cells lent s
  pub branch : p < limits.blocks
  pub place : i < limits.dests
  pub few : length (s.args p i) ≤ param_room limits

-- the branch of p has room for an argument at its destination i
pub record CanFeed (lent : List ℕ) (p i : ℕ) (s : Form) : Type 0 where
  pub cells : Cells lent s
  pub branch : p < limits.blocks
  pub place : i < limits.dests
  pub row : length (s.args p i) < param_room limits

-- ---- variables

pub record HasDef (lent : List ℕ) (v b : ℕ) (s : Form) : Type 0 where
  pub cells : Cells lent s
  pub var : v < limits.variables
  pub known : b < limits.blocks

-- v's definitions in the first n blocks can be read
pub record HasDefs (lent : List ℕ) (v n : ℕ) (s : Form) : Type 0 where
  pub cells : Cells lent s
  pub var : v < limits.variables
  pub known : n ≤ limits.blocks

-- One store has two meanings: b defines v as x; or, where b has no definition of its own, x stands for v where b begins.
pub record Recorded (old new : List ℕ) (v b x : ℕ) : Type 0 where
  pub own : (s : Form) → HasDef old v b s → Cells new (write v b x s)
  pub entry : (s : Form) → HasDef old v b s → s.own v b ≡ none → Cells new (mark_one v x b s)

pub record CanWait (lent : List ℕ) (b : ℕ) (s : Form) : Type 0 where
  pub cells : Cells lent s
  pub known : b < limits.blocks
  pub row : length (s.pending b) < wait_room limits

pub record HasPending (lent : List ℕ) (b : ℕ) (s : Form) : Type 0 where
  pub cells : Cells lent s
  pub known : b < limits.blocks
  pub few : length (s.pending b) ≤ wait_room limits

-- the list is b's pending variables, in order
abbrev pub Lists : List ℕ → ℕ → Form → Type 0
Lists list b s = list ≡ firsts (s.pending b)

-- and none is pending in the cells
pub record Taken (lent list : List ℕ) (b : ℕ) (s : Form) : Type 0 where
  pub cells : Cells lent (set_pending b [] s)
  pub lists : Lists list b s

-- ---- the zero log, the blocks placed

pub record CanLog (lent : List ℕ) (s : Form) : Type 0 where
  pub cells : Cells lent s
  pub row : length s.zeros < zero_room limits

pub record HasPlaced (lent : List ℕ) (s : Form) : Type 0 where
  pub cells : Cells lent s
  pub few : length s.placed ≤ pred_room limits

pub record CanPlace (lent : List ℕ) (b : ℕ) (s : Form) : Type 0 where
  pub placed : HasPlaced lent s
  pub row : has b s.placed ≡ false → length s.placed < pred_room limits
