-- `emit_zero` meets its contract: the block is placed, the call logged, the first of two steps made, if there are two, and then the zero, in the definition's
-- order.
-- Assumes nothing.
use Rattle.settle.proofs.Settles.{zero_log, zero_emit, zero_make, zero_made}
use Rattle.settle.proofs.emit_zero.Goals as goal

pub log_zero-requires : goal.log_zero-requires
log_zero-requires c = (_, zero_log _ _ _ _ _ c.requires.1 _ c.place_block.ensures)

pub emit_step-d-requires : goal.emit_step-d-requires
emit_step-d-requires c = (_, zero_emit _ _ _ _ _ c.requires.1 _ c.place_block.ensures _ c.log_zero.ensures)

pub make-more-requires-clause-ex : goal.make-more-requires-clause-ex
make-more-requires-clause-ex c =
    (_, zero_make _ _ _ _ _ c.requires.1 _ c.place_block.ensures _ c.log_zero.ensures _ c.value_type-ty.result _ c.emit_step-d.ensures)

pub returns : goal.returns
returns c =
    λ s h. zero_made _ _ _ _ s h _ c.place_block.ensures _ c.log_zero.ensures _
    c.value_type-ty.result _ c.emit_step-d.ensures _ _
    c.value_type-ty.ensures.1 c.make-more.ensures
