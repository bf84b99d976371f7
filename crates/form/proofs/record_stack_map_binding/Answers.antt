-- `record_stack_map_binding` meets its contract: for an unmarked variable nothing changes; else the value's own cell gets its mark.
-- Assumes nothing.
use Rattle.form.proofs.Values.{unmarked_kept, marked_recorded}
use Rattle.form.proofs.record_stack_map_binding.Goals as goal

pub returns-then-not-marked : goal.returns-then-not-marked
returns-then-not-marked c = λ g v e s p lt. unmarked_kept _ s _ p g v e c.if-not-marked.true

pub returns : goal.returns
returns c = λ g v e s p lt. rw c.marked.ensures (marked_recorded _ s _ p g v e c.if-not-marked.false lt)
