-- `run` meets its contract: after i turns the cells show the session of the first i calls, and at last the stacks' cells are cleared.
-- Assumes nothing.
use Rattle.std.proofs.Common.{rules}
use Rattle.turns.proofs.Runs.{running_start, running_next, running_end}
use Rattle.turns.proofs.run.Goals as goal

pub loop-i-init : goal.loop-i-init
loop-i-init c = let p = c.requires in running_start p.exact c.clear.ensures p.lined.0

pub turn-c-requires-clause-state_with : goal.turn-c-requires-clause-state_with
turn-c-requires-clause-state_with c = let h = c.loop-i.invariant in (_, h.turned)

pub loop-i-preserved : goal.loop-i-preserved
loop-i-preserved c =
    let h = c.loop-i.invariant in
    let k = c.turn-c.auto in
    let e = c.turn-c.ensures in
    running_next h c.loop-i-test.true e.same_room k.graph k.form k.work (e.turned _ h.turned)

pub returns : goal.returns
returns c =
    let h = c.loop-i.invariant in
    let codes = h.room.codes in
    let numbers = h.room.numbers in
    running_end h c.loop-i-test.false (search rules) (search rules) c.clear_work.ensures
