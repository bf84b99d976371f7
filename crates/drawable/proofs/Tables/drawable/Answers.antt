-- `drawable` meets its contract: past the two counts, the closure tells of each block whether it fits, so `all` tells it of all.
-- Assumes nothing.
use Rattle.std.proofs.Common.{rules, tests, sym, ◌∙◌}
use native.Mathlib.Omega.{arith}
use Rattle.std.proofs.lemmas.Iterator.{YieldsList-from_range}
use Rattle.std.proofs.lemmas.Iterator.Search.{all_from_yields_List}
use Rattle.drawable.specs.Fits.{blocks, block_fits}
use Rattle.drawable.proofs.Checks.{every_up, blocks_past, values_past, by_blocks}
use Rattle.drawable.proofs.Tables.drawable.Goals as goal

pub returns-then-blocks-gt-BLOCKS : goal.returns-then-blocks-gt-BLOCKS
returns-then-blocks-gt-BLOCKS c = sym (blocks_past _ _ c.if-blocks-gt-BLOCKS.true)

pub returns-then-self-gt-VALUE_ROOM : goal.returns-then-self-gt-VALUE_ROOM
returns-then-self-gt-VALUE_ROOM c = sym (values_past _ _ c.if-blocks-gt-BLOCKS.false c.if-self-gt-VALUE_ROOM.true)

pub returns : goal.returns
returns c =
    let fits = block_fits c.args.self.now.graph.now c.args.self.now.form.now in
    let n = blocks c.args.self.now.graph.now in
    all_from_yields_List fits _ _ _ c.all.ensures.ran (YieldsList-from_range 0 n n (cc) (omega arith)) (λ b z q k. search (rules, tests))
    ∙ every_up fits 0 n
    ∙ sym (by_blocks _ _ c.if-blocks-gt-BLOCKS.false c.if-self-gt-VALUE_ROOM.false)
