-- `settle_pending` meets its contract. The loop's invariant: the cells show the form in which the first k pending variables are settled.
-- Assumes nothing.
use Rattle.definition.specs.Form.{Graph, Form}
use Rattle.ssa.specs.Use.{Marked}
use Rattle.ssa.proofs.Seals.{Settling}
use Rattle.ssa.proofs.settle_pending.Given as goal

abbrev pub invariant-loop-k : goal.invariant-loop-k
invariant-loop-k l =
    (g : Graph) (s : Form) → Marked l.fn.graph l.fn.form l.fn.work l.fn.c l.fn.block.0 g s
    → Settling l.graph l.form l.work l.v-items l.d l.block.0 l.n l.k g s
