-- `is_declared` meets its contract: the closure tells of each destination whether it has the branch, so `any` tells it of all; no other block can have it.
-- Assumes nothing.
use Rattle.std.proofs.Common.{rules, tests, refl, get_or, ◌∙◌}
use Rattle.definition.specs.Base.{has}
use Rattle.layout.proofs.Places.{any_of_places}
use Rattle.graph.proofs.Declared.{all_named}
use Rattle.graph.proofs.GraphCells.is_declared.Goals as goal

pub returns : goal.returns
returns c = λ g s.
    let p = c.args.branch.0 in
    any_of_places (λ i. has p (g.preds (get_or (g.dests p) i 0))) (λ b. has p (g.preds b)) (g.dests p) _ (c.dest_count-n.ensures.value g s) (λ i lt. refl)
    _ c.any.ensures.ran (cc)
    (λ i q k. search (rules, tests)) (λ i q k. search (rules, tests))
    ∙ all_named g s p
