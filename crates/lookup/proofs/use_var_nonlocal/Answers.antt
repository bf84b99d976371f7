-- `use_var_nonlocal` meets its contract: a definition here is answered; else what is found is copied back to the blocks that the walk passed.
-- Assumes nothing.
use Rattle.lookup.proofs.Visits.{visits_known, find_can, copy_can, val_small, visits_found}
use Rattle.lookup.proofs.use_var_nonlocal.Goals as goal

pub returns-in-Some : goal.returns-in-Some
returns-in-Some c = λ g s ts rs h. visits_known h c.in-Some.is c.definition.ensures c.push_result.ensures

pub copy_back-requires-clause-copy_with : goal.copy_back-requires-clause-copy_with
copy_back-requires-clause-copy_with c =
    let p = c.requires in
    let F = c.find_var.ensures _ _ _ _ (find_can p.4 c.in_default.is c.definition.ensures) in
    (_, _, _, copy_can p.4 c.in_default.is c.definition.ensures F)

pub copy_back-requires-clause-val_bound : goal.copy_back-requires-clause-val_bound
copy_back-requires-clause-val_bound c =
    let p = c.requires in
    let F = c.find_var.ensures _ _ _ _ (find_can p.4 c.in_default.is c.definition.ensures) in
    val_small p.4 c.in_default.is c.definition.ensures F

pub returns : goal.returns
returns c =
    λ g s ts rs h.
    visits_found h c.in_default.is c.definition.ensures (c.find_var.ensures g s ts rs (find_can h c.in_default.is c.definition.ensures)) c.copy_back.ensures
