-- `remove_block_predecessor` meets its contract: the search ends at the entry's place, and the last entry moves there, which is `swap_out` in a row without repeats.
-- Assumes nothing.
use Rattle.std.proofs.Common.{◌≡◌, get_or, refl}
use Rattle.layout.specs.Rows.{seek}
use Rattle.graph.proofs.Cells.{preds_readable}
use Rattle.graph.proofs.Changes.{predecessor_place, place_found, predecessor_removed}
use Rattle.graph.proofs.remove_block_predecessor.Goals as goal

pub find-requires : goal.find-requires
find-requires c = let p = c.requires in preds_readable p.graph_with.1.seen _ p.block_lt_blocks c.preds_at-at.ensures

pub unwrap-place-requires : goal.unwrap-place-requires
unwrap-place-requires c = let p = c.requires in rw (place_found _ p.block_lt_blocks c.preds_at-at.ensures _ p.graph_with.1 _ refl c.find.ensures)

pub swap_remove-requires-clause-readable : goal.swap_remove-requires-clause-readable
swap_remove-requires-clause-readable c = let p = c.requires in preds_readable p.graph_with.1.seen _ p.block_lt_blocks c.preds_at-at.ensures

pub returns : goal.returns
returns c =
    λ g s.
    let low = c.requires.block_lt_blocks in
    let at = c.preds_at-at.ensures in
    let there = place_found _ low at _ s _ refl c.find.ensures in
    let found : c.unwrap-place.result ≡ seek c.args.graph.now c.preds_at-at.result c.args.branch.0 (get_or c.args.graph.now c.preds_at-at.result 0) 0 =
    cc (there, c.unwrap-place.ensures) in
    (predecessor_place _ low at _ s _ found, rw c.swap_remove.ensures (predecessor_removed _ low at _ s _ found))
