-- `new_dest` meets its contract: the checks are the definition's, in its order, and the count of destinations before is the new one's place.
-- Assumes nothing.
use Rattle.std.proofs.Common.{le-leb, refl, length}
use borrow.Author.Tests.{lt-leb}
use Rattle.entity.specs.Limits.{limits}
use Rattle.reply.specs.declared.Refusal.{Refusal}
use Rattle.reply.proofs.Asked.{seen, cells}
use Rattle.reply.proofs.Answered.{tested, refused, absent, changed, accepted}
use Rattle.connect.proofs.new_dest.Goals as goal

pub returns-in_err-branch : goal.returns-in_err-branch
returns-in_err-branch c = λ fl t h. let p = c.in_err-branch.ensures in rw (p.missed _ t.form (seen h)) (absent h _ _ c.from_residual.ensures.1 p.absent)

pub returns-in_err-block : goal.returns-in_err-block
returns-in_err-block c =
    λ fl t h.
    let p = c.in_ok-branch.ensures in
    let q = c.in_err-block.ensures in
    rw (← p.same, p.there _ t.form (seen h), q.missed _ t.form (seen h)) (absent h _ _ c.from_residual-in_err-block.ensures.1 q.absent)

pub returns-then-declared : goal.returns-then-declared
returns-then-declared c =
    λ fl t h.
    let p = c.in_ok-branch.ensures in
    let q = c.in_ok-block.ensures in
    rw (← p.same, ← q.same, p.there _ t.form (seen h), q.there _ t.form (seen h), tested (c.is_declared-declared.ensures _ (seen h)) c.if-declared.true)
    (refused h Refusal.Declared refl)

pub returns-then-n-ge-DESTS : goal.returns-then-n-ge-DESTS
returns-then-n-ge-DESTS c =
    λ fl t h.
    let p = c.in_ok-branch.ensures in
    let q = c.in_ok-block.ensures in
    rw (
      ← p.same,
      ← q.same,
      p.there _ t.form (seen h),
      q.there _ t.form (seen h),
      tested (c.is_declared-declared.ensures _ (seen h)) c.if-declared.false,
      ← c.dest_count-n.ensures.value _ (seen h),
      le-leb limits.dests _ c.if-n-ge-DESTS.true,
    )
    (refused h Refusal.DestsFull refl)

pub returns : goal.returns
returns c =
    λ fl t h.
    let p = c.in_ok-branch.ensures in
    let q = c.in_ok-block.ensures in
    let count = c.dest_count-n.ensures.value _ (seen h) in
    rw (
      ← p.same,
      ← q.same,
      p.there _ t.form (seen h),
      q.there _ t.form (seen h),
      tested (c.is_declared-declared.ensures _ (seen h)) c.if-declared.false,
      lt-leb limits.dests (length (t.graph.dests c.in_ok-branch.branch.0)) (rw (← count) c.if-n-ge-DESTS.false),
    )
    (accepted _ _ c.accept.ensures count (changed h refl refl (c.declare_dest.ensures _ (record { seen = seen h; room = rw (← count) c.if-n-ge-DESTS.false }))
    (cells h)))
