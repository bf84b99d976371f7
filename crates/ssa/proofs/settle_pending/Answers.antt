-- `settle_pending` meets its contract. The loop's invariant: the cells show the form in which the first k pending variables are settled.
-- Assumes nothing.
use Rattle.std.proofs.Common.{arith, refl, ℕ, length-take}
use Rattle.ssa.proofs.Seals.{pending_can, settling_all, next_param, fill_can, settling_next, settling_end}
use Rattle.ssa.proofs.settle_pending.Goals as goal

pub take_pending-n-requires-clause-ex : goal.take_pending-n-requires-clause-ex
take_pending-n-requires-clause-ex c = let p = c.requires in (p.1, pending_can p.2)

pub loop-k-init : goal.loop-k-init
loop-k-init c = λ g s h. settling_all h (omega (arith, length-take {A = ℕ})) (c.take_pending-n.ensures.1 s (pending_can h))

pub pending_param-val-requires : goal.pending_param-val-requires
pending_param-val-requires c = let p = c.requires in (_, (_, next_param (c.loop-k.invariant p.0 p.1 p.2) c.loop-k-test.true))

pub predecessors_lookup-d-requires : goal.predecessors_lookup-d-requires
predecessors_lookup-d-requires c =
    let p = c.requires in
    (_, _, fill_can (c.loop-k.invariant p.0 p.1 p.2) c.loop-k-test.true refl c.pending_param-val.ensures)

pub loop-k-preserved : goal.loop-k-preserved
loop-k-preserved c = λ g s h. settling_next (c.loop-k.invariant g s h) c.loop-k-test.true refl c.pending_param-val.ensures c.predecessors_lookup-d.ensures

pub returns : goal.returns
returns c = λ g s h. settling_end (c.loop-k.invariant g s h) c.loop-k-test.false
