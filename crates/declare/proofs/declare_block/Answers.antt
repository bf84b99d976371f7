-- `declare_block` meets its contract: the three comparisons are the definition's, so the next block is declared, and placed where it is block 0.
-- Assumes nothing.
use Rattle.std.proofs.Common.{le-ltb, eq-eqb, arith, refl}
use borrow.Author.Tests.{lt-leb}
use Rattle.entity.specs.Limits.{limits}
use Rattle.reply.proofs.Asked.{seen, cells}
use Rattle.reply.proofs.Answered.{changed, accepted}
use Rattle.declare.proofs.Can.{can_place}
use Rattle.declare.proofs.declare_block.Goals as goal

pub place_block-requires : goal.place_block-requires
place_block-requires c = let p = c.requires in (_, can_place p.1 p.0.form refl (cells p.1) 0 (omega arith))

pub returns : goal.returns
returns c =
    let a = c.args in
    λ t h.
    let count = c.block_count-known.ensures.value _ (seen h) in
    rw (
      lt-leb limits.blocks _ c.if-x-ge-BLOCKS.false,
      le-ltb t.graph.blocks a.x (rw (← count) c.if-known-x.false),
      le-ltb a.x t.graph.blocks
          (rw (← count) c.if-x-known.false),
      eq-eqb a.x 0 c.if-x-ne0.false,
    )
    (accepted _ _ c.accept-2.ensures refl (changed h refl refl (c.declare_block.ensures _ (seen h))
    (c.place_block.ensures _ (can_place h t.form refl (cells h) 0 (omega arith)))))
