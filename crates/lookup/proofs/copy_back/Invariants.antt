-- `copy_back` meets its contract: the cells show the form with the blocks behind marked, and the way to `from` gets shorter. A block on the way has a
-- single predecessor, so the loop is never left in the middle.
-- Assumes nothing.
use Rattle.entity.specs.Limits.{limits}
use Rattle.lookup.proofs.Copies.{far, Copied}
use Rattle.lookup.proofs.copy_back.Given as goal

abbrev pub invariant-loop-var : goal.invariant-loop-var
invariant-loop-var l = Copied l.graph l.initial.form l.from.0 l.var.0 l.val.0 l.initial.b.0 l.form l.b.0

abbrev pub decreases-loop-var : goal.decreases-loop-var
decreases-loop-var l = far l.graph l.from.0 limits.blocks l.b.0
