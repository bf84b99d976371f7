-- `seal_all_blocks` meets its contract: the blocks are sealed in order; the log only grows, so the difference of its lengths counts the zeros added.
-- Assumes nothing.
use Rattle.std.proofs.Common.{arith}
use Rattle.definition.specs.Session.{seal_each}
use Rattle.definition.specs.Base.{up_from}
use Rattle.calls.proofs.Logs.{each_more}
use Rattle.calls.proofs.Calls.{at_rest, cells_of}
use Rattle.calls.proofs.seal_all_blocks.Goals as goal

pub zero_count-after-requires : goal.zero_count-after-requires
zero_count-after-requires c = let p = c.requires in
    ((seal_each (up_from 0 p.0.graph.blocks) p.0.graph p.0.form).1, (c.seal_all_blocks-d.ensures _ _ (at_rest p.1)).shown.form.cells)

pub overflow_sub-after : goal.overflow_sub-after
overflow_sub-after c =
    let p = c.requires in
    let all = up_from 0 p.0.graph.blocks in
    let u = c.seal_all_blocks-d.ensures _ _ (at_rest p.1) in
    let before = c.zero_count-before.ensures p.0.form (cells_of p.1) in
    let after = c.zero_count-after.ensures (seal_each all p.0.graph p.0.form).1 u.shown.form.cells in
    omega (arith, before, after, each_more all p.0.graph p.0.form)
