-- `seal_all_blocks` meets its contract. The loop's invariant: sealing the blocks from b on, in the state that the cells show, is sealing all of them
-- in the first state.
-- Assumes nothing.
use Rattle.definition.specs.Base.{up_from}
use Rattle.definition.specs.Form.{Graph, Form}
use Rattle.definition.specs.Session.{seal_each}
use Rattle.ssa.specs.Use.{AtRest}
use Rattle.ssa.proofs.Seals.{ToSeal}
use Rattle.ssa.proofs.seal_all_blocks.Given as goal

abbrev pub invariant-loop-b : goal.invariant-loop-b
invariant-loop-b l =
    (g : Graph) (s : Form) → AtRest l.initial.graph l.initial.form l.initial.work l.initial.d g s
    → ToSeal l.graph l.form l.work l.d l.b l.n (seal_each (up_from 0 g.blocks) g s)
