-- `clear_work` meets its contract: blank cells are those of idle stacks.
-- Assumes nothing.
use Rattle.std.proofs.Common.{◌∙◌}
use Rattle.clear.proofs.Blanks.{work_blanked}
use Rattle.clear.proofs.clear_work.Goals as goal

pub returns : goal.returns
returns c = c.blank.ensures ∙ work_blanked _
