-- `append_block_param` meets its contract: the value made goes to the end of the block's row.
-- Assumes nothing.
use Rattle.form.proofs.Params.{param_room, param_appended}
use Rattle.form.proofs.append_block_param.Goals as goal

pub push-requires : goal.push-requires
push-requires c = let q = c.requires in let p = q.ex in rw c.params_at.ensures (param_room _ _ _ _ _ p.0 _ p.1 (c.make-d.ensures.1 p.0 p.1.make))

pub returns : goal.returns
returns c = (c.make-d.ensures.0, λ s p. param_appended _ _ _ _ _ s _ p (c.make-d.ensures.1 s p.make) _ (rw c.params_at.ensures at c.push.ensures))
