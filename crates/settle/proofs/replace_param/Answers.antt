-- `replace_param` meets its contract: leaving the list and becoming a name are the two halves of the definition's `alias`.
-- Assumes nothing.
use Rattle.settle.proofs.Settles.{alias_value}
use Rattle.settle.proofs.replace_param.Goals as goal

pub change_to_alias-requires : goal.change_to_alias-requires
change_to_alias-requires c = (_, alias_value _ _ _ _ c.requires.1 _ c.remove_block_param.ensures)

pub returns : goal.returns
returns c = λ s h. c.change_to_alias.ensures _ (alias_value _ _ _ s h _ c.remove_block_param.ensures)
