-- `seal_all_blocks` meets its contract. The loop's invariant: sealing the blocks from b on, in the state that the cells show, is sealing all of them
-- in the first state.
-- Assumes nothing.
use Rattle.ssa.proofs.Seals.{next_can, to_seal_next, all_sealed}
use Rattle.ssa.proofs.seal_all_blocks.Goals as goal

pub seal_one_block-d-requires : goal.seal_one_block-d-requires
seal_one_block-d-requires c = let p = c.requires in (_, _, next_can (c.loop-b.invariant p.0 p.1 p.2) c.loop-b-test.true)

pub loop-b-preserved : goal.loop-b-preserved
loop-b-preserved c = λ g s h. to_seal_next (c.loop-b.invariant g s h) c.loop-b-test.true c.seal_one_block-d.ensures

pub returns : goal.returns
returns c = λ g s h. all_sealed (c.loop-b.invariant g s h) c.loop-b-test.false
