-- `turn` meets its contract: the call's answer is the definition's reply, and it is written where it is told.
-- Assumes nothing.
use Rattle.turns.proofs.Turns.{call_small, turned_next}
use Rattle.turns.proofs.turn.Goals as goal

pub next_call-requires : goal.next_call-requires
next_call-requires c =
    let p = c.requires in
    let t = p.state_with.0 in
    let h = p.state_with.1 in
    call_small h p.i_in_bounds p.lined (rw (← c.new-r.ensures) at (c.one_call-answer.ensures t (c.named_answer-w.ensures t.done h.told h.turns) h.between))
    c.write.ensures.written

pub returns-clause-turned : goal.returns-clause-turned
returns-clause-turned c =
    λ t h.
    let p = c.requires in
    turned_next h p.i_in_bounds p.lined (rw (← c.new-r.ensures) at
    (c.one_call-answer.ensures t (c.named_answer-w.ensures t.done h.told h.turns) h.between)) c.write.ensures.written c.next_call.ensures
