-- `find` meets its contract: `position` over the part gives the place that the search gives, and as a u32 it is the same number.
-- Assumes nothing.
use Rattle.std.proofs.Common.{rules, tests}
use lib.Dec.{eqb}
use Rattle.std.proofs.lemmas.Iterator.{YieldsList-from_slice}
use Rattle.std.proofs.lemmas.Iterator.Search.{position_from_yields_List}
use Rattle.rows.proofs.Parts.{row_part_place, placed}
use Rattle.rows.proofs.find.Goals as goal

pub returns : goal.returns
returns c =
    let found = position_from_yields_List (λ y. eqb y c.args.x) _ _ c.position.result c.position.ensures.ran
    (YieldsList-from_slice _ c.iter.ensures.rest) (λ x b q k. search (rules, tests)) in
    placed _ _ _ _ _ (row_part_place c.args.t.now c.args.at c.args.x _ _ c.requires.there found) c.map.ensures.cases (λ y lt q. search (rules, tests))
