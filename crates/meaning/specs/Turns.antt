-- What a run of the machine does: the calls that it schedules, the results that it holds, what it ends with. The first visit of a use is no scheduled call.
-- Assumes nothing.
use Rattle.std.specs.Prelude.{ℕ, zero, suc, ◌+◌, ◌<◌, ◌≤◌, ◌≡◌, false, List, [], ◌∷◌, ◌++◌, length}
use Rattle.entity.specs.Limits.{limits, call_room, result_room}
use Rattle.definition.specs.Form.{Graph, Form, def}
use Rattle.definition.specs.Read.{Got, fill, read, depth, set_pending, settle_pending}
use Rattle.definition.specs.Session.{mark_sealed}
use Rattle.meaning.specs.Holds.{Holds}
use Rattle.meaning.specs.Machine.{Task, Conf, conf, schedule, visit, turn, turns}

-- a turn takes the call on top off the stack, if there is one
abbrev pub top : List Task → ℕ
top [] = 0
top (t ∷ ts) = 1

-- how many calls n turns take off
abbrev pub taken : ℕ → Graph → ℕ → Conf → ℕ
taken zero g v c = 0
taken (suc n) g v c = top c.tasks + taken n g v (turn g v c.tasks c.results c.form)

-- The run from c answers r.
pub record Run (g : Graph) (v : ℕ) (c : Conf) (r : Got) : Type 0 where
  -- Each turn takes one scheduled call off. So what was taken off and what still stands there is all that was scheduled up to then:
  -- at most `call_room limits` calls are scheduled in a run.
  pub calls : (n : ℕ) → taken n g v c + length (turns n g v c).tasks ≤ call_room limits
  -- At no moment more than `result_room limits` results are held, and at every moment all holds that holds between calls.
  pub results : (n : ℕ) → length (turns n g v c).results ≤ result_room limits
  pub holds : (n : ℕ) → Holds g (turns n g v c).form
  -- And that many turns are enough: they end with exactly the recursion's answer, and no call is left.
  pub answer : (n : ℕ) → call_room limits ≤ n → turns n g v c ≡ conf [] (r.0 ∷ []) r.1

pub record Scheduled (g : Graph) (s : Form) : Type 0 where
  -- a use of v in b, after its first visit
  pub of_use : (v b : ℕ) → v < length g.types → b < g.blocks → Run g v (visit g v b [] [] s (def s v b)) (read (depth g) g v b s)
  -- a seal of b, where the pending variables us are settled and w is to be
  pub of_seal : (b : ℕ) → b < g.blocks → g.sealed b ≡ false → (us ws : List (ℕ × ℕ)) (w : ℕ × ℕ) → s.pending b ≡ us ++ w ∷ ws
      → let now = mark_sealed g b in
      let s' = settle_pending now b us (set_pending b [] s) in
      Run now w.0 (conf (schedule now w.1 b []) [] s') (fill (read (depth now) now w.0) now b w.1 s')
