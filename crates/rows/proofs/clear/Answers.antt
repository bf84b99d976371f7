-- `clear` meets its contract: zeros over the count and the entries are what the wiping leaves.
-- Assumes nothing.
use Rattle.rows.proofs.Parts.{row_part_wiped}
use Rattle.rows.proofs.clear.Goals as goal

pub returns : goal.returns
returns c = row_part_wiped c.args.t.now c.args.at _ _ c.requires.there (c.fill.ensures.after (λ y e. e))
