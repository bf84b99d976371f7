-- `agree` meets its contract: what the results so far say, with those still to come, says what all of them say.
-- Assumes nothing.
use Rattle.std.proofs.Common.{sym}
use Rattle.settle.proofs.Judges.{result_resolves, judge_skip, judge_first, judge_again, judge_many, judge_still, judge_end}
use Rattle.settle.proofs.agree.Goals as goal
use Rattle.settle.proofs.agree.Goals.{in-Nothing, in-One}

pub resolve_aliases-y-requires : goal.resolve_aliases-y-requires
resolve_aliases-y-requires c = let p = c.requires in (p.0, result_resolves _ _ _ _ 0 _ c.loop-i-test.true _ c.result-r.ensures _ _ _ p.3)

pub loop-i-preserved-then-eq : goal.loop-i-preserved-then-eq
loop-i-preserved-then-eq c =
    let l = c.loop-i in
    judge_skip _ _ _ _ _ _ c.loop-i-test.true _ c.result-r.ensures l.verdict _ c.resolve_aliases-y.ensures.result_value l.invariant
    (sym c.if-eq.ensures)

pub loop-i-preserved : goal.loop-i-preserved
loop-i-preserved c =
    let l = c.loop-i in
    elim c.match-verdict.branch [
      | in-Nothing w ↦
          rw w.verdict-is
          (judge_first _ _ _ _ _ _ c.loop-i-test.true _ c.result-r.ensures l.verdict _ c.resolve_aliases-y.ensures.result_value l.invariant
          (sym c.if-eq.ensures) w.in-Nothing.is)
      | in-One w ↦
          rw (w.verdict-is, w.in-One.is)
          (judge_again _ _ _ _ _ _ c.loop-i-test.true _ c.result-r.ensures l.verdict _ c.resolve_aliases-y.ensures.result_value l.invariant
          (sym c.if-eq.ensures) _ w.in-One.is (cc (w.if-eq-2.ensures, w.in-One.val-is)))
    ]

pub returns-in_default : goal.returns-in_default
returns-in_default c =
    let l = c.loop-i in
    judge_many _ _ _ _ _ _ c.loop-i-test.true _ c.result-r.ensures l.verdict _ c.resolve_aliases-y.ensures.result_value l.invariant
    (sym c.if-eq.ensures) _ c.in-One.is (cc (c.if-eq-2.ensures, c.in-One.val-is))

pub returns-in_default-2 : goal.returns-in_default-2
returns-in_default-2 c = let l = c.loop-i in judge_still _ _ _ _ _ l.verdict l.i c.in_default.is l.invariant

pub returns : goal.returns
returns c = let l = c.loop-i in judge_end _ _ _ _ _ l.verdict l.i c.loop-i-test.false l.invariant
