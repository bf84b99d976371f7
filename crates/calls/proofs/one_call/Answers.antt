-- `one_call` meets its contract: each kind's function answers the definition's reply of that kind; any other number is refused.
-- Assumes nothing.
use Rattle.std.proofs.Common.{refl}
use Rattle.reply.specs.declared.Refusal.{Refusal}
use Rattle.reply.proofs.Answered.{passed_on, refused}
use Rattle.calls.proofs.Calls.{unknown, idle_still}
use Rattle.calls.proofs.one_call.Goals as goal

pub returns-in_err-try_from : goal.returns-in_err-try_from
returns-in_err-try_from c =
    let p = c.in_err-try_from.ensures in
    λ t e h.
    rw (passed_on _ _ c.from_residual.ensures.1, p.0, unknown t.graph t.form t.done c.args.x c.args.y c.args.z c.args.kind p.1)
    (idle_still h (refused h.showing Refusal.UnknownKind refl))

pub returns-in-DeclareVar : goal.returns-in-DeclareVar
returns-in-DeclareVar c = λ t e h. rw (← c.in_ok-try_from.ensures, c.in-DeclareVar.is) (idle_still h (c.declare_var.ensures _ t h.showing))

pub returns-in-NewDest : goal.returns-in-NewDest
returns-in-NewDest c = λ t e h. rw (← c.in_ok-try_from.ensures, c.in-NewDest.is) (idle_still h (c.new_dest.ensures _ t h.showing))

pub returns-in-AddPred : goal.returns-in-AddPred
returns-in-AddPred c = λ t e h. rw (← c.in_ok-try_from.ensures, c.in-AddPred.is) (idle_still h (c.add_pred.ensures _ t h.showing))

pub returns-in-DropPred : goal.returns-in-DropPred
returns-in-DropPred c = λ t e h. rw (← c.in_ok-try_from.ensures, c.in-DropPred.is) (idle_still h (c.drop_pred.ensures _ t h.showing))

pub returns-in-HasAnyPredecessors : goal.returns-in-HasAnyPredecessors
returns-in-HasAnyPredecessors c = λ t e h. rw (← c.in_ok-try_from.ensures, c.in-HasAnyPredecessors.is)
    (idle_still h (c.has_any_predecessors.ensures _ t h.showing))

pub returns-in-IsSealed : goal.returns-in-IsSealed
returns-in-IsSealed c = λ t e h. rw (← c.in_ok-try_from.ensures, c.in-IsSealed.is) (idle_still h (c.is_sealed.ensures _ t h.showing))
