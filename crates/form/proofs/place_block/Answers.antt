-- `place_block` meets its contract: where the block is placed the list stays, else it goes to the end of the row.
-- Assumes nothing.
use Rattle.std.proofs.Common.{sym, ◌∙◌}
use Rattle.form.proofs.Logs.{placed_already, place_room, block_placed}
use Rattle.form.proofs.place_block.Goals as goal

pub returns-then-is_placed : goal.returns-then-is_placed
returns-then-is_placed c = λ s p. placed_already _ s _ p (sym (c.is_placed.ensures s p.placed) ∙ c.if-is_placed.true)

pub push-requires : goal.push-requires
push-requires c = let p = c.requires in place_room _ p.0 _ p.1 (sym (c.is_placed.ensures p.0 p.1.placed) ∙ c.if-is_placed.false)

pub returns : goal.returns
returns c = λ s p. block_placed _ s _ p (sym (c.is_placed.ensures s p.placed) ∙ c.if-is_placed.false) _ c.push.ensures
