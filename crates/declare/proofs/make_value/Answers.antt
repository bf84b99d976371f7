-- `make_value` meets its contract: the checks are the definition's; the value is counted, its block placed, and then it is the next one.
-- Assumes nothing.
use Rattle.std.proofs.Common.{le-leb, suc, ◌<◌, refl}
use borrow.Author.Tests.{lt-leb}
use Rattle.entity.specs.Limits.{limits}
use Rattle.entity.specs.Types.{type_count}
use Rattle.definition.specs.Form.{with_makes}
use Rattle.reply.specs.declared.Refusal.{Refusal}
use Rattle.reply.proofs.Asked.{seen, cells}
use Rattle.reply.proofs.Answered.{tested, refused, absent, value_added, accepted}
use Rattle.declare.proofs.Can.{can_place, can_count, can_make}
use Rattle.declare.proofs.make_value.Goals as goal

pub returns-in_err-block : goal.returns-in_err-block
returns-in_err-block c = λ t h. let p = c.in_err-block.ensures in rw (p.missed _ t.form (seen h)) (absent h _ _ c.from_residual.ensures.1 p.absent)

pub returns-then-made_count-ge-MADE : goal.returns-then-made_count-ge-MADE
returns-then-made_count-ge-MADE c =
    λ t h.
    let p = c.in_ok-block.ensures in
    let q = c.in_ok-ty.ensures in
    rw (
      ← p.same,
      ← q.0,
      p.there _ t.form (seen h),
      lt-leb type_count _ q.1,
      tested (c.has_branch.ensures _ (seen h)) c.if-has_branch.false,
      le-leb limits.made t.form.makes (rw (← c.made_count.ensures t.form (cells h)) c.if-made_count-ge-MADE.true),
    )
    (refused h Refusal.Full refl)

pub count_made-requires : goal.count_made-requires
count_made-requires c = let p = c.requires in (_, can_count p.1 (rw (← c.made_count.ensures p.0.form (cells p.1)) c.if-made_count-ge-MADE.false))

pub place_block-requires : goal.place_block-requires
place_block-requires c =
    let p = c.requires in
    let h = p.1 in
    let room : p.0.form.makes < limits.made = rw (← c.made_count.ensures p.0.form (cells h)) c.if-made_count-ge-MADE.false in
    (_, can_place h (with_makes p.0.form (suc p.0.form.makes)) refl (c.count_made.ensures _ (can_count h room)) _ c.in_ok-block.ensures.small)

pub make-d-requires-clause-ex : goal.make-d-requires-clause-ex
make-d-requires-clause-ex c =
    let p = c.requires in
    let h = p.1 in
    let room : p.0.form.makes < limits.made = rw (← c.made_count.ensures p.0.form (cells h)) c.if-made_count-ge-MADE.false in
    let b = c.in_ok-block.ensures.small in (
      _,
      can_make h room _ (c.place_block.ensures _
          (can_place h (with_makes p.0.form (suc p.0.form.makes)) refl (c.count_made.ensures _ (can_count h room)) _ b)),
    )

pub returns : goal.returns
returns c =
    λ t h.
    let p = c.in_ok-block.ensures in
    let q = c.in_ok-ty.ensures in
    let room : t.form.makes < limits.made = rw (← c.made_count.ensures t.form (cells h)) c.if-made_count-ge-MADE.false in
    rw (
      ← p.same,
      ← q.0,
      p.there _ t.form (seen h),
      lt-leb type_count _ q.1,
      tested (c.has_branch.ensures _ (seen h)) c.if-has_branch.false,
      lt-leb limits.made t.form.makes room,
    )
    (accepted _ _ c.accept.ensures h.leaves.form.next (value_added h c.make-d.ensures.0
    (c.make-d.ensures.1 _ (can_make h room _ (c.place_block.ensures _
    (can_place h (with_makes t.form (suc t.form.makes)) refl (c.count_made.ensures _ (can_count h room)) _ p.small))))))
