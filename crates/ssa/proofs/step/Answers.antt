-- `step` meets its contract: the call popped is the task on top, and each kind does what the machine's turn does.
-- Assumes nothing.
use Rattle.ssa.proofs.Turns.{use_can, turned_look, settle_can, answer_can, turned_finish}
use Rattle.ssa.proofs.step.Goals as goal

pub use_var_nonlocal-requires : goal.use_var_nonlocal-requires
use_var_nonlocal-requires c = let p = c.requires in (p.0, p.4, p.2, p.3, use_can p.5 _ c.pop_call-call.ensures c.in-UseVar.is c.from.ensures)

pub finish_predecessors_lookup-requires : goal.finish_predecessors_lookup-requires
finish_predecessors_lookup-requires c = let p = c.requires in (p.0, p.4, p.2, p.3, settle_can p.5 _ c.pop_call-call.ensures c.in-FinishPredecessorsLookup.is)

pub push_result-requires : goal.push_result-requires
push_result-requires c =
    let p = c.requires in
    (p.2, _, answer_can p.5 _ c.pop_call-call.ensures c.in-FinishPredecessorsLookup.is c.finish_predecessors_lookup.ensures)

pub returns-in-UseVar : goal.returns-in-UseVar
returns-in-UseVar c = λ g q ts rs s h. turned_look h _ c.pop_call-call.ensures c.in-UseVar.is c.from.ensures _ _ _ c.use_var_nonlocal.ensures

pub returns-in-FinishPredecessorsLookup : goal.returns-in-FinishPredecessorsLookup
returns-in-FinishPredecessorsLookup c =
    λ g q ts rs s h.
    turned_finish h _ c.pop_call-call.ensures c.in-FinishPredecessorsLookup.is c.finish_predecessors_lookup.ensures _ _ c.push_result.ensures
