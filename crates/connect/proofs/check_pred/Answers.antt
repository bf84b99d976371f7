-- `check_pred` meets its contract: its three checks are the definition's, in its order.
-- Assumes nothing.
use Rattle.std.proofs.Common.{refl}
use Rattle.reply.proofs.Answered.{tested, passed_on}
use Rattle.connect.proofs.check_pred.Goals as goal

pub returns-in_err-block-clause-d_value : goal.returns-in_err-block-clause-d_value
returns-in_err-block-clause-d_value c =
    λ g s h d. let p = c.in_err-block.ensures in rw (passed_on _ _ c.from_residual.ensures.1, p.absent, p.missed g s h) refl

pub returns-in_err-branch-clause-d_value : goal.returns-in_err-branch-clause-d_value
returns-in_err-branch-clause-d_value c =
    λ g s h d.
    let p = c.in_ok-block.ensures in
    let q = c.in_err-branch.ensures in
    rw (passed_on _ _ c.from_residual-in_err-branch.ensures.1, q.absent, ← p.same, p.there g s h, q.missed g s h) refl

pub returns-then-is_sealed-clause-d_value : goal.returns-then-is_sealed-clause-d_value
returns-then-is_sealed-clause-d_value c =
    λ g s h d.
    let p = c.in_ok-block.ensures in
    let q = c.in_ok-branch.ensures in
    rw (← p.same, ← q.same, p.there g s h, q.there g s h, tested (c.is_sealed.ensures g h) c.if-is_sealed.true) refl

pub returns-clause-d_value : goal.returns-clause-d_value
returns-clause-d_value c =
    λ g s h d.
    let p = c.in_ok-block.ensures in
    let q = c.in_ok-branch.ensures in
    rw (← p.same, ← q.same, p.there g s h, q.there g s h, tested (c.is_sealed.ensures g h) c.if-is_sealed.false) refl
