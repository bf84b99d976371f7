-- `clear` meets its contract: each list is blanked as far as its need, and blank cells are the empty session.
-- Assumes nothing.
use Rattle.std.proofs.Common.{◌∙◌}
use Rattle.clear.proofs.Blanks.{graph_blanked, form_blanked}
use Rattle.clear.proofs.clear.Goals as goal

pub returns : goal.returns
returns c = record { graph_empty = c.blank.ensures ∙ graph_blanked _; form_empty = c.blank-2.ensures ∙ form_blanked _ }
