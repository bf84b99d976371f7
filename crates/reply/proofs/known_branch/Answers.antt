-- `known_branch` meets its contract: its two checks are the two sides of the definition's.
-- Assumes nothing.
use Rattle.std.proofs.Common.{refl}
use Rattle.reply.proofs.Answered.{passed_on}
use Rattle.reply.proofs.known_branch.Goals as goal

pub returns-in_err-block : goal.returns-in_err-block
returns-in_err-block c =
    rw (passed_on _ _ c.from_residual.ensures.1) record {
      absent = c.in_err-block.ensures.absent;
      missed = λ g s h. rw
          (c.in_err-block.ensures.missed g s h) refl;
    }
