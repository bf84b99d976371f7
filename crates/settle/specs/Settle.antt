-- What settling a parameter asks of the configuration, and what it leaves and answers.
-- Assumes nothing.
use Rattle.std.specs.Prelude.{ℕ, ◌+◌, ◌≤◌, ◌<◌, ◌≡◌, true, false, cond, List, [], ◌∷◌, eqb, length, drop}
use Rattle.entity.specs.declared.Value.{Value}
use Rattle.entity.specs.Limits.{limits, value_room, zero_room, param_room, pred_room, result_room}
use Rattle.entity.specs.Types.{type_count}
use Rattle.definition.specs.Base.{has, every}
use Rattle.definition.specs.Form.{Graph, Form}
use Rattle.definition.specs.Read.{Got, resolve, is_dest, settle, log_zero, place_block, emit_zero}
use Rattle.definition.specs.Resolve.{Ends, targets as TargetsOf}
use Rattle.meaning.specs.Path.{In}
use Rattle.meaning.specs.Machine.{Task, conf}
use Rattle.layout.specs.declared.Counts.{Counts}
use Rattle.layout.specs.Counts.{with_values}
use Rattle.layout.specs.Layout.{Shows, Stacks, Shown}
use Rattle.graph.specs.Seen.{Seen}
use Rattle.form.specs.Can.{Cells, HasValue, HasParams}
use Rattle.work.specs.Work.{CanTake, lasts}
use Rattle.settle.specs.declared.Agreement.{Agreement}

-- ---- do the results agree?

-- there are a form and stacks such that
abbrev pub SomeWith : (Form → List Task → List ℕ → Type 0) → Type 0
SomeWith P = (s : Form) × (ts : List Task) × (rs : List ℕ) × P s ts rs

-- the chain of names from x ends
pub record CanResolve (fl : List ℕ) (c : Counts) (x : ℕ) (s : Form) : Type 0 where
  pub shows : Shows fl c s
  pub few : s.next ≤ value_room limits
  pub chain : Ends (TargetsOf s) x (resolve s x)

-- the chains from the last n results end
pub record CanAgree (fl wl : List ℕ) (c : Counts) (n : ℕ) (s : Form) (ts : List Task) (rs : List ℕ) : Type 0 where
  pub shows : Shows fl c s
  pub results : CanTake wl c n ts rs
  pub few : s.next ≤ value_room limits
  pub chains : (r : ℕ) → In r (lasts n rs) → Ends (TargetsOf s) r (resolve s r)

abbrev pub value : ℕ → Value
value x = record { 0 = x }

-- what the results say, resolved and without the parameter
abbrev pub judge : List ℕ → Agreement
judge [] = Agreement.Nothing
judge (y ∷ ys) = cond (every (eqb y) ys) (Agreement.One (value y)) Agreement.Many

-- ---- a zero, another name, arguments

-- there is room in block b for a zero, in one step or two: two values, and no value past the count is an alias yet, nor recorded for stack maps
pub record CanEmit (fl : List ℕ) (c : Counts) (b : ℕ) (s : Form) : Type 0 where
  pub shows : Shows fl c s
  pub known : b < limits.blocks
  pub room : s.next + 2 ≤ value_room limits
  pub fresh : (y : ℕ) → s.next ≤ y → s.target y ≡ y
  pub unrecorded : (y : ℕ) → s.next ≤ y → s.recorded y ≡ false

-- there is room for one more zero, of x's type, in block b
pub record CanZero (fl : List ℕ) (c : Counts) (x b : ℕ) (s : Form) : Type 0 where
  pub emit : CanEmit fl c b s
  pub there : x < s.next
  pub typed : (s.info x).type < type_count
  pub log : length s.zeros < zero_room limits
  pub placed : length s.placed ≤ pred_room limits
  pub place : has b s.placed ≡ false → length s.placed < pred_room limits

-- a zero of x's type in block b, which call n added
abbrev pub zeroed : ℕ → ℕ → ℕ → Form → Got
zeroed n x b s = emit_zero (s.info x).type b (log_zero n b (place_block b s))

-- the zero is the definition's, and so is what the cells show; the counts are those before, but for the values
pub record Zeroed (fl : List ℕ) (c : Counts) (r : Value × Counts) (x b : ℕ) (s : Form) : Type 0 where
  pub val : r.0.0 ≡ (zeroed c.call x b s).0
  pub counts : r.1 ≡ with_values r.1.values c
  pub shows : Shows fl r.1 (zeroed c.call x b s).1

-- x can become another name, and leave the parameters of b
pub record CanAlias (fl : List ℕ) (x b : ℕ) (s : Form) : Type 0 where
  pub val : HasValue fl x s
  pub params : HasParams fl b s

-- there are a graph and a form such that
abbrev pub BothWith : (Graph → Form → Type 0) → Type 0
BothWith P = (g : Graph) × (s : Form) × P g s

-- the branch of p has room for an argument at each destination that is b
pub record CanFeedBranch (gl fl : List ℕ) (p b : ℕ) (g : Graph) (s : Form) : Type 0 where
  pub seen : Seen gl g
  pub cells : Cells fl s
  pub branch : p < limits.blocks
  pub rows : (i : ℕ) → is_dest (g.dests p) i b ≡ true → length (s.args p i) < param_room limits

-- there are a graph, a form and stacks such that
abbrev pub AllWith : (Graph → Form → List Task → List ℕ → Type 0) → Type 0
AllWith P = (g : Graph) × (s : Form) × (ts : List Task) × (rs : List ℕ) × P g s ts rs

-- each branch to b has room, and there is a result for each
pub record CanFeedAll (gl fl wl : List ℕ) (c : Counts) (b : ℕ) (g : Graph) (s : Form) (ts : List Task) (rs : List ℕ) : Type 0 where
  pub seen : Seen gl g
  pub cells : Cells fl s
  pub known : b < limits.blocks
  pub results : CanTake wl c (length (g.preds b)) ts rs
  pub rows : (p : ℕ) → In p (g.preds b) → (i : ℕ) → is_dest (g.dests p) i b ≡ true → length (s.args p i) < param_room limits

-- ---- settling

-- the parameter x of b can be settled by the results rs
pub record Settles (g : Graph) (x b : ℕ) (s : Form) (rs : List ℕ) : Type 0 where
  pub known : b < g.blocks
  pub there : x < s.next
  pub typed : (s.info x).type < type_count
  pub room : s.next + 2 ≤ value_room limits
  pub fresh : (y : ℕ) → s.next ≤ y → s.target y ≡ y
  pub unrecorded : (y : ℕ) → s.next ≤ y → s.recorded y ≡ false
  pub targets : (y : ℕ) → y < s.next → s.target y < s.next
  pub chains : (y : ℕ) → y < s.next → Ends (TargetsOf s) y (resolve s y)
  pub enough : length (g.preds b) ≤ length rs
  pub height : length rs ≤ result_room limits
  pub low : (r : ℕ) → In r (lasts (length (g.preds b)) rs) → r < s.next
  pub zeros : length s.zeros < zero_room limits
  pub placed : length s.placed ≤ pred_room limits
  pub place : has b s.placed ≡ false → length s.placed < pred_room limits
  pub params : length (s.params b) ≤ param_room limits
  pub args : (p : ℕ) → In p (g.preds b) → (i : ℕ) → is_dest (g.dests p) i b ≡ true → length (s.args p i) < param_room limits

pub record CanSettle (gl fl wl : List ℕ) (c : Counts) (x b : ℕ) (g : Graph) (s : Form) (ts : List Task) (rs : List ℕ) : Type 0 where
  pub seen : Seen gl g
  pub call : c.call ≡ g.call
  pub shows : Shows fl c s
  pub stacks : Stacks wl c ts rs
  pub settles : Settles g x b s rs

-- the answer is the definition's, and so is what the cells show
pub record Settled (fl wl : List ℕ) (n : ℕ) (r : Value × Counts) (x b : ℕ) (g : Graph) (s : Form) (ts : List Task) (rs : List ℕ) : Type 0 where
  pub call : r.1.call ≡ n
  pub val : r.0.0 ≡ (settle g b x (lasts (length (g.preds b)) rs) s).0
  pub shown : Shown fl wl r.1 (conf ts (drop (length (g.preds b)) rs) (settle g b x (lasts (length (g.preds b)) rs) s).1)
