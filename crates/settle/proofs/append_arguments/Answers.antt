-- `append_arguments` meets its contract: after each turn one predecessor more has fed its result.
-- Assumes nothing.
use Rattle.std.proofs.Common.{arith}
use Rattle.settle.proofs.Feeds.{branch_room, feed_all_next, feed_all_end}
use Rattle.settle.proofs.append_arguments.Goals as goal

pub append_argument-requires : goal.append_argument-requires
append_argument-requires c =
    let p = c.requires in (
      p.0,
      _,
      branch_room _ _ _ _ _ _ _ c.loop-i.invariant _ _ _ c.loop-i-test.true
          c.predecessor_count-n.ensures.value c.predecessor-p.ensures.result_value c.result-r.ensures _ _ _ _
          p.4,
    )

pub loop-i-preserved : goal.loop-i-preserved
loop-i-preserved c =
    feed_all_next _ _ _ _ _ _ _ c.loop-i.invariant _ _ _ c.loop-i-test.true c.predecessor_count-n.ensures.value c.predecessor-p.ensures.result_value
    c.result-r.ensures _ c.append_argument.ensures

pub returns : goal.returns
returns c =
    let l = c.loop-i in
    λ g s ts rs h. feed_all_end _ _ _ _ _ _ l.i l.invariant g s ts rs h (omega (arith, c.predecessor_count-n.ensures.value g h.seen))
