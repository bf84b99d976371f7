-- `append_argument` meets its contract: after each turn one destination more is fed.
-- Assumes nothing.
use Rattle.std.proofs.Common.{arith}
use Rattle.settle.proofs.Feeds.{feed_start, feed_skip, feed_room, feed_more, feed_end}
use Rattle.settle.proofs.append_argument.Goals as goal

pub loop-i-init : goal.loop-i-init
loop-i-init c = feed_start _ _ _ _ _

pub loop-i-preserved-then-d-dest : goal.loop-i-preserved-then-d-dest
loop-i-preserved-then-d-dest c = let l = c.loop-i in feed_skip _ _ _ _ _ _ _ l.invariant _ c.dest-d.ensures.result_value c.if-d-dest.true

pub append_argument-requires : goal.append_argument-requires
append_argument-requires c =
    let p = c.requires in (
      _,
      feed_room _ _ _ _ _ _ _ c.loop-i.invariant _ c.dest-d.ensures.result_value
          c.if-d-dest.false p.0 p.1 p.2
          (omega (arith, c.dest_count-n.ensures.value p.0 p.2.seen)),
    )

pub loop-i-preserved : goal.loop-i-preserved
loop-i-preserved c =
    feed_more _ _ _ _ _ _ _ c.loop-i.invariant _ c.dest-d.ensures.result_value c.if-d-dest.false _ c.append_argument.ensures
    (λ g s. omega (arith, c.dest_count-n.ensures.value g s))

pub returns : goal.returns
returns c = let l = c.loop-i in λ g s h. feed_end _ _ _ _ _ _ l.i l.invariant g s h (omega (arith, c.dest_count-n.ensures.value g h.seen))
