-- A scheduled call leaves: its two cells say which call it was, and below them stands the rest of the stack.
-- Assumes nothing.
use Prim.Native.Nat.{ℕ, ◌+◌, ◌-◌, ◌<◌}
use mathlib.Core.Path.{◌≡◌, sym, ap, ◌∙◌}
use mathlib.Core.Logic.{◌≢◌}
use mathlib.Core.List.{List}
use native.Mathlib.Omega.{arith}
use lib.ListN.{length, get_or}
use Rattle.entity.specs.Limits.{limits, call_room}
use Rattle.meaning.specs.Machine.{Task, look, finish}
use Rattle.layout.specs.declared.Counts.{Counts}
use Rattle.layout.specs.Cells.{base}
use Rattle.layout.specs.Layout.{task_value, task_block, work_sizes, Stacks}
use Rattle.layout.specs.Counts.{call_less}
use Rattle.layout.proofs.Stacks.{task_look, task_finish, top_value, top_block, stacks_uncall}
use Rattle.work.specs.Work.{CanPop}

module _ (l : List ℕ) (c : Counts) (q : Task) (ts : List Task) (rs : List ℕ) (p : CanPop l c q ts rs) where
  height : c.calls - 1 ≡ length ts
  height = omega (arith, p.stacks.calls)

  below : c.calls - 1 < call_room limits
  below = omega (arith, height, p.room)

  value_is : get_or l (base work_sizes 0 + (c.calls - 1)) 0 ≡ task_value q
  value_is = top_value l c ts rs q p.stacks (c.calls - 1) height below

  block_is : get_or l (base work_sizes 1 + (c.calls - 1)) 0 ≡ task_block q
  block_is = top_block l c ts rs q p.stacks (c.calls - 1) height below

  pub call_look : get_or l (base work_sizes 0 + (c.calls - 1)) 0 ≡ 0 → look (get_or l (base work_sizes 1 + (c.calls - 1)) 0) ≡ q
  call_look z = ap look block_is ∙ task_look q (sym value_is ∙ z)

  pub call_finish : get_or l (base work_sizes 0 + (c.calls - 1)) 0 ≢ 0
      → finish (get_or l (base work_sizes 0 + (c.calls - 1)) 0 - 1) (get_or l (base work_sizes 1 + (c.calls - 1)) 0) ≡ q
  call_finish n = rw (value_is, block_is) (task_finish q (λ z. n (value_is ∙ z)))

  pub call_left : Stacks l (call_less c) ts rs
  call_left = stacks_uncall l c ts rs q p.stacks
