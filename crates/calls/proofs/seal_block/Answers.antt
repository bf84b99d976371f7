-- `seal_block` meets its contract: the checks are the definition's; the log only grows, so the difference of its lengths counts the zeros added.
-- Assumes nothing.
use Rattle.std.proofs.Common.{arith}
use Rattle.definition.specs.Session.{seal_form}
use Rattle.reply.proofs.Answered.{tested, absent}
use Rattle.calls.proofs.Logs.{seal_more}
use Rattle.calls.proofs.Calls.{named, seen_of, cells_of, seal_can, idle_still, taken_on, difference}
use Rattle.calls.proofs.seal_block.Goals as goal

pub returns-in_err-block : goal.returns-in_err-block
returns-in_err-block c =
    λ t h. let b = c.in_err-block.ensures in rw (b.missed _ t.form (seen_of h)) (idle_still h (absent h.showing _ _ c.from_residual.ensures.1 b.absent))

pub zero_count-m-requires : goal.zero_count-m-requires
zero_count-m-requires c =
    let p = c.requires in
    let b = named (c.in_ok-block.ensures.there _ p.0.form (seen_of p.1)) in (
      seal_form p.0.graph p.0.form _,
      ((c.seal_one_block-d.ensures _ _ (seal_can p.1 b)).first
          (tested (c.is_sealed.ensures _ (seen_of p.1)) c.if-is_sealed.false)).shown.form.cells,
    )

pub overflow_sub-m : goal.overflow_sub-m
overflow_sub-m c =
    let p = c.requires in
    let b = named (c.in_ok-block.ensures.there _ p.0.form (seen_of p.1)) in
    let u = (c.seal_one_block-d.ensures _ _ (seal_can p.1 b)).first (tested (c.is_sealed.ensures _ (seen_of p.1)) c.if-is_sealed.false) in
    let before = c.zero_count-n.ensures p.0.form (cells_of p.1) in
    let after = c.zero_count-m.ensures (seal_form p.0.graph p.0.form _) u.shown.form.cells in
    omega (arith, before, after, seal_more p.0.graph p.0.form c.in_ok-block.block.0)

pub returns : goal.returns
returns c =
    λ t h.
    let b = c.in_ok-block.ensures in
    let known = b.there _ t.form (seen_of h) in
    let e = tested (c.is_sealed.ensures _ (seen_of h)) c.if-is_sealed.false in
    let u = (c.seal_one_block-d.ensures _ _ (seal_can h (named known))).first e in
    rw (← b.same, known, e)
    (taken_on _ _ c.accept.ensures (difference (c.zero_count-m.ensures (seal_form t.graph t.form _) u.shown.form.cells)
    (c.zero_count-n.ensures t.form (cells_of h))) u)
