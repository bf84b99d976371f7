-- `pending_param` meets its contract: the row's count less n is the place of the first of the last n entries.
-- Assumes nothing.
use Rattle.std.proofs.Common.{arith}
use Rattle.form.proofs.Params.{next_inside, next_is}
use Rattle.form.proofs.pending_param.Goals as goal

pub overflow_sub-k : goal.overflow_sub-k
overflow_sub-k c = omega (arith, c.params_at-at.ensures, rw (← c.params_at-at.ensures) at (next_inside _ _ _ _ _ c.requires.1.1))

pub bounds-form-at-2 : goal.bounds-form-at-2
bounds-form-at-2 c = omega (arith, c.params_at-at.ensures, rw (← c.params_at-at.ensures) at (next_inside _ _ _ _ _ c.requires.1.1))

pub returns : goal.returns
returns c = λ x s p. rw c.params_at-at.ensures (next_is _ _ _ x s p)
