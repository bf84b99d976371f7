-- `begin_predecessors_lookup` meets its contract: the call that settles goes below, then the predecessors from place i on are scheduled.
-- Assumes nothing.
use Rattle.std.proofs.Common.{ap, ◌∙◌}
use Rattle.layout.specs.declared.Counts.{Counts}
use Rattle.lookup.proofs.Begins.{begin_call, begin_schedule, schedule_room, schedule_next, schedule_end}
use Rattle.lookup.proofs.begin_predecessors_lookup.Goals as goal

pub push_call-d-requires-in-loop-i-clause-some : goal.push_call-d-requires-in-loop-i-clause-some
push_call-d-requires-in-loop-i-clause-some c =
    let p = c.requires in
    let first = c.push_call-d.ensures.1 _ _ (begin_call p.3) in
    (_, _, schedule_room c.loop-i-test.true c.loop-i.invariant.2 (begin_schedule p.3 c.push_call-d.ensures.0 first))

pub loop-i-preserved : goal.loop-i-preserved
loop-i-preserved c = (
  ap (λ (d : Counts). d.values) c.push_call-d-in-loop-i.ensures.0 ∙ c.loop-i.invariant.0,
  ap (λ (d : Counts). d.call) c.push_call-d-in-loop-i.ensures.0 ∙ c.loop-i.invariant.1,
  schedule_next c.loop-i-test.true c.loop-i.invariant.2 c.predecessor-p.ensures.result_value c.push_call-d-in-loop-i.ensures.0 c.push_call-d-in-loop-i.ensures.1,
)

pub returns : goal.returns
returns c = (
  c.loop-i.invariant.0 ∙ ap (λ (d : Counts). d.values) c.push_call-d.ensures.0,
  c.loop-i.invariant.1 ∙ ap (λ (d : Counts). d.call) c.push_call-d.ensures.0,
  λ g ts rs h. schedule_end c.loop-i-test.false c.loop-i.invariant.2 g _ rs (begin_schedule h c.push_call-d.ensures.0 (c.push_call-d.ensures.1 ts rs (begin_call h))),
)
