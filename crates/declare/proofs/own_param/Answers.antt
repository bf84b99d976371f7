-- `own_param` meets its contract: the checks are the definition's; the value is counted, made as the block's last parameter, and counted for its block.
-- Assumes nothing.
use Rattle.std.proofs.Common.{◌<◌, refl}
use Rattle.entity.specs.Limits.{limits}
use Rattle.reply.specs.declared.Refusal.{Refusal}
use Rattle.reply.proofs.Asked.{seen, cells}
use Rattle.reply.proofs.Answered.{tested, refused, absent, value_added, accepted}
use Rattle.declare.proofs.Can.{has_pending, has_owns, can_count, can_append, can_own}
use Rattle.declare.proofs.Owns.{own_begun, own_full, own_made_full, own_made}
use Rattle.declare.proofs.own_param.Goals as goal

pub returns-in_err-block : goal.returns-in_err-block
returns-in_err-block c = λ t h. let p = c.in_err-block.ensures in rw (p.missed _ t.form (seen h)) (absent h _ _ c.from_residual.ensures.1 p.absent)

pub is_begun-requires-clause-ex : goal.is_begun-requires-clause-ex
is_begun-requires-clause-ex c = (_, has_pending c.requires.1 _ c.in_ok-block.ensures.small)

pub returns-then-is_begun : goal.returns-then-is_begun
returns-then-is_begun c =
    λ t h.
    let p = c.in_ok-block.ensures in
    let q = c.in_ok-ty.ensures in
    rw (
      ← p.same,
      ← q.0,
      own_begun t.graph t.form _ _ (p.there _ t.form (seen h)) q.1
          (tested (c.is_begun.ensures _ _ (seen h) (has_pending h _ p.small)) c.if-is_begun.true),
    )
    (refused h Refusal.Begun refl)

pub own_count-requires : goal.own_count-requires
own_count-requires c = (_, has_owns c.requires.1 _ c.in_ok-block.ensures.small)

pub returns-then-own_count-ge-OWN_PARAMS : goal.returns-then-own_count-ge-OWN_PARAMS
returns-then-own_count-ge-OWN_PARAMS c =
    λ t h.
    let p = c.in_ok-block.ensures in
    let q = c.in_ok-ty.ensures in
    let new = tested (c.is_begun.ensures _ _ (seen h) (has_pending h _ p.small)) c.if-is_begun.false in
    rw (
      ← p.same,
      ← q.0,
      own_full t.graph t.form _ _ (p.there _ t.form (seen h)) q.1 new
          (rw (← c.own_count.ensures _ (has_owns h _ p.small)) c.if-own_count-ge-OWN_PARAMS.true),
    )
    (refused h Refusal.OwnFull refl)

pub returns-then-made_count-ge-MADE : goal.returns-then-made_count-ge-MADE
returns-then-made_count-ge-MADE c =
    λ t h.
    let p = c.in_ok-block.ensures in
    let q = c.in_ok-ty.ensures in
    let new = tested (c.is_begun.ensures _ _ (seen h) (has_pending h _ p.small)) c.if-is_begun.false in
    rw (
      ← p.same,
      ← q.0,
      own_made_full t.graph t.form _ _ (p.there _ t.form (seen h)) q.1 new
          (rw (← c.own_count.ensures _ (has_owns h _ p.small)) c.if-own_count-ge-OWN_PARAMS.false)
          (rw (← c.made_count.ensures t.form (cells h)) c.if-made_count-ge-MADE.true),
    )
    (refused h Refusal.Full refl)

pub count_made-requires : goal.count_made-requires
count_made-requires c = let p = c.requires in (_, can_count p.1 (rw (← c.made_count.ensures p.0.form (cells p.1)) c.if-made_count-ge-MADE.false))

pub append_block_param-d-requires-clause-ex : goal.append_block_param-d-requires-clause-ex
append_block_param-d-requires-clause-ex c =
    let p = c.requires in
    let h = p.1 in
    let lb = c.in_ok-block.ensures.small in
    let few : p.0.form.owns c.in_ok-block.block.0 < limits.own_params = rw (← c.own_count.ensures _ (has_owns h _ lb)) c.if-own_count-ge-OWN_PARAMS.false in
    let room : p.0.form.makes < limits.made = rw (← c.made_count.ensures p.0.form (cells h)) c.if-made_count-ge-MADE.false in (
      _,
      can_append h _ lb (tested (c.is_begun.ensures _ _ (seen h) (has_pending h _ lb)) c.if-is_begun.false) few room
          (c.count_made.ensures _ (can_count h room)),
    )

pub count_own-requires : goal.count_own-requires
count_own-requires c =
    let p = c.requires in
    let h = p.1 in
    let lb = c.in_ok-block.ensures.small in
    let few : p.0.form.owns c.in_ok-block.block.0 < limits.own_params = rw (← c.own_count.ensures _ (has_owns h _ lb)) c.if-own_count-ge-OWN_PARAMS.false in
    let room : p.0.form.makes < limits.made = rw (← c.made_count.ensures p.0.form (cells h)) c.if-made_count-ge-MADE.false in
    let can = can_append h _ lb (tested (c.is_begun.ensures _ _ (seen h) (has_pending h _ lb)) c.if-is_begun.false) few room
    (c.count_made.ensures _ (can_count h room)) in
    (_, can_own h _ _ lb few (c.append_block_param-d.ensures.1 _ can))

pub returns : goal.returns
returns c =
    λ t h.
    let p = c.in_ok-block.ensures in
    let q = c.in_ok-ty.ensures in
    let lb = p.small in
    let few : t.form.owns c.in_ok-block.block.0 < limits.own_params = rw (← c.own_count.ensures _ (has_owns h _ lb)) c.if-own_count-ge-OWN_PARAMS.false in
    let room : t.form.makes < limits.made = rw (← c.made_count.ensures t.form (cells h)) c.if-made_count-ge-MADE.false in
    let new = tested (c.is_begun.ensures _ _ (seen h) (has_pending h _ lb)) c.if-is_begun.false in
    let shown = c.append_block_param-d.ensures.1 _ (can_append h _ lb new few room (c.count_made.ensures _ (can_count h room))) in
    rw (← p.same, ← q.0, own_made t.graph t.form _ _ (p.there _ t.form (seen h)) q.1 new few room)
    (accepted _ _ c.accept.ensures h.leaves.form.next (value_added h c.append_block_param-d.ensures.0 (record {
      cells = c.count_own.ensures _ (can_own h _ _ lb few shown);
      next = shown.next;
    })))
