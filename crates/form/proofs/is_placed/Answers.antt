-- `is_placed` meets its contract: no block is placed, or the last one is this one, or the search says.
-- Assumes nothing.
use Rattle.std.proofs.Common.{arith, ◌∙◌}
use borrow.Author.Tests.{eq-eqb}
use Rattle.form.proofs.Logs.{placed_few, placed_readable, none_placed, last_placed, placed_is}
use Rattle.form.proofs.is_placed.Goals as goal

pub returns-else-n-ne0 : goal.returns-else-n-ne0
returns-else-n-ne0 c = λ s p. rw c.if-n-ne0.false (none_placed _ s p _ c.if-n-ne0.false)

pub bounds-form-n : goal.bounds-form-n
bounds-form-n c = omega (arith, placed_few _ c.requires.0 c.requires.1)

pub returns-then-form-n : goal.returns-then-form-n
returns-then-form-n c = λ s p. eq-eqb _ _ c.if-form-n.true ∙ last_placed _ s p _ c.if-n-ne0.true c.if-form-n.true

pub has-requires : goal.has-requires
has-requires c = placed_readable _ c.requires.0 c.requires.1

pub returns-else-form-n : goal.returns-else-form-n
returns-else-form-n c = λ s p. c.has.ensures ∙ placed_is _ s p _
