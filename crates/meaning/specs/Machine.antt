-- The crate's form of reading: a stack of calls and a stack of results, and one step of them.
-- Assumes nothing.
use Rattle.std.specs.Prelude.{ℕ, zero, suc, Bool, true, false, List, [], ◌∷◌, ◌++◌, map, reverse, length, take, drop}
use Rattle.std.proofs.Math.Option.{Option, none, some}
use Rattle.definition.specs.Base.{before}
use Rattle.definition.specs.Form.{Graph, Form, def}
use Rattle.definition.specs.Read.{mark, new_param, wait, walk, settle}

-- read at a predecessor; or settle the parameter x of block b
pub data Task : Type 0 where
  look : ℕ → Task
  finish : ℕ → ℕ → Task

-- both stacks have their top in front
pub record Conf : Type 0 where
  pub tasks : List Task
  pub results : List ℕ
  pub form : Form

abbrev pub conf : List Task → List ℕ → Form → Conf
conf ts rs s = record { tasks = ts; results = rs; form = s }

-- begin_predecessors_lookup
abbrev pub schedule : Graph → ℕ → ℕ → List Task → List Task
schedule g x c ts = map look (g.preds c) ++ finish x c ∷ ts

abbrev pub open_param : Graph → ℕ → ℕ → ℕ → List ℕ → List Task → List ℕ → Form → Bool → Conf
open_param g v c x bs ts rs s true = conf (schedule g x c ts) rs (mark v x bs s)
open_param g v c x bs ts rs s false = conf ts (x ∷ rs) (mark v x bs (wait v c x s))

-- find_var with the copy-back, after the walk
abbrev pub find : Graph → ℕ → List Task → List ℕ → Form → List ℕ → ℕ → Option ℕ → Conf
find g v ts rs s over c (some x) = conf ts (x ∷ rs) (mark v x over s)
find g v ts rs s over c none = open_param g v c s.next (before c over) ts rs (new_param g v c s) (g.sealed c)

-- use_var_nonlocal
abbrev pub visit : Graph → ℕ → ℕ → List Task → List ℕ → Form → Option ℕ → Conf
visit g v b ts rs s (some x) = conf ts (x ∷ rs) s
visit g v b ts rs s none = let w = walk (suc g.blocks) g s v [] b in find g v ts rs s w.passed w.end w.met

-- finish_predecessors_lookup
abbrev pub settle_top : Graph → ℕ → ℕ → List Task → List ℕ → Form → Conf
settle_top g x b ts rs s =
    let n = length (g.preds b) in
    let r = settle g b x (reverse (take n rs)) s in
    conf ts (r.0 ∷ drop n rs) r.1

-- one turn of run_state_machine
abbrev pub turn : Graph → ℕ → List Task → List ℕ → Form → Conf
turn g v [] rs s = conf [] rs s
turn g v (look p ∷ ts) rs s = visit g v p ts rs s (def s v p)
turn g v (finish x b ∷ ts) rs s = settle_top g x b ts rs s

abbrev pub turns : ℕ → Graph → ℕ → Conf → Conf
turns zero g v c = c
turns (suc n) g v c = turns n g v (turn g v c.tasks c.results c.form)
