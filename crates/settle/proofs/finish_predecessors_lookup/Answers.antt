-- `finish_predecessors_lookup` meets its contract: each verdict's arm does what the definition's `settle` does by that verdict.
-- Assumes nothing.
use Rattle.std.proofs.Common.{refl}
use Rattle.settle.proofs.Settles.{can_agree, can_alias_zero, settled_zero, settled_one, settled_many}
use Rattle.settle.proofs.finish_predecessors_lookup.Goals as goal

pub agree-requires : goal.agree-requires
agree-requires c = let p = c.requires in (p.1, p.2, p.3, can_agree _ _ _ _ _ _ _ _ _ _ p.4 _ c.predecessor_count-n.ensures.value)

pub replace_param-requires : goal.replace_param-requires
replace_param-requires c = (_, can_alias_zero _ _ _ _ _ _ _ _ _ _ c.requires.4 _ _ c.emit_zero.ensures)

pub returns-in-Nothing : goal.returns-in-Nothing
returns-in-Nothing c =
    λ g s ts rs h. settled_zero _ _ _ _ _ _ g s ts rs h _ c.predecessor_count-n.ensures.value _ c.agree.ensures c.in-Nothing.is _ _ _ _
    c.emit_zero.ensures c.replace_param.ensures refl c.pop_results.ensures

pub returns-in-One : goal.returns-in-One
returns-in-One c =
    λ g s ts rs h. settled_one _ _ _ _ _ _ g s ts rs h _ c.predecessor_count-n.ensures.value _ c.agree.ensures _ c.in-One.is _ _ refl
    c.replace_param-in-One.ensures c.pop_results-in-One.ensures

pub returns-in-Many : goal.returns-in-Many
returns-in-Many c =
    λ g s ts rs h. settled_many _ _ _ _ _ _ g s ts rs h _ c.predecessor_count-n.ensures.value _ c.agree.ensures c.in-Many.is _ _ refl
    c.append_arguments.ensures c.pop_results-in-Many.ensures
