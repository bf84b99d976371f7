-- `has_any_predecessors` meets its contract: it has the definition's one check, and the answer is whether the count is 0.
-- Assumes nothing.
use Rattle.std.proofs.Common.{◌∙◌}
use Rattle.reply.proofs.Asked.{seen}
use Rattle.reply.proofs.Answered.{absent, accepted}
use Rattle.connect.proofs.Checks.{byte_is}
use Rattle.connect.proofs.has_any_predecessors.Goals as goal

pub returns-in_err-block : goal.returns-in_err-block
returns-in_err-block c = λ fl t h. let p = c.in_err-block.ensures in rw (p.missed _ t.form (seen h)) (absent h _ _ c.from_residual.ensures.1 p.absent)

pub returns : goal.returns
returns c =
    λ fl t h.
    let p = c.in_ok-block.ensures in
    rw (← p.same, p.there _ t.form (seen h), ← c.predecessor_count.ensures.value _ (seen h))
    (accepted _ _ c.accept.ensures (c.from.ensures ∙ byte_is _) h.leaves)
