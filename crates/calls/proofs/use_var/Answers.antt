-- `use_var` meets its contract: the checks are the definition's, and the value is its `read`.
-- Assumes nothing.
use Rattle.reply.proofs.Answered.{absent}
use Rattle.calls.proofs.Calls.{named, seen_of, read_can, idle_still, taken_on}
use Rattle.calls.proofs.use_var.Goals as goal

pub returns-in_err-var : goal.returns-in_err-var
returns-in_err-var c =
    λ t h. let v = c.in_err-var.ensures in rw (v.missed _ t.form (seen_of h)) (idle_still h (absent h.showing _ _ c.from_residual.ensures.1 v.absent))

pub returns-in_err-block : goal.returns-in_err-block
returns-in_err-block c =
    λ t h.
    let v = c.in_ok-var.ensures in
    let b = c.in_err-block.ensures in
    rw (← v.same, v.there _ t.form (seen_of h), b.missed _ t.form (seen_of h))
    (idle_still h (absent h.showing _ _ c.from_residual-in_err-block.ensures.1 b.absent))

pub returns : goal.returns
returns c =
    λ t h.
    let v = c.in_ok-var.ensures in
    let b = c.in_ok-block.ensures in
    let known = v.there _ t.form (seen_of h) in
    let placed = b.there _ t.form (seen_of h) in
    let u = c.use_var.ensures _ _ (read_can h (named known) (named placed)) in
    rw (← v.same, ← b.same, known, placed) (taken_on _ _ c.accept.ensures u.val u.rest)
