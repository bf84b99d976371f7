-- `find_var` meets its contract: a definition met is answered; else the parameter made is recorded, for stack maps too if the variable is marked, and its block
-- waits or schedules its predecessors.
-- Assumes nothing.
use Rattle.std.proofs.Common.{refl}
use Rattle.lookup.proofs.Finds.{walk_can, finds_met, append_can, block_low, record_has, binding_has, begin_can, wait_can, finds_sealed, finds_open}
use Rattle.lookup.proofs.find_var.Goals as goal

pub returns-in-Some : goal.returns-in-Some
returns-in-Some c = λ g s ts rs h. finds_met h (c.walk-value.ensures g s (walk_can h.asks)) c.in-Some.is refl refl c.push_result-d.ensures

pub append_block_param-d-requires-clause-ex : goal.append_block_param-d-requires-clause-ex
append_block_param-d-requires-clause-ex c = let p = c.requires in (p.1, append_can p.4 (c.walk-value.ensures _ _ (walk_can p.4.asks)) c.in_default.is)

pub record_def-requires-clause-ex : goal.record_def-requires-clause-ex
record_def-requires-clause-ex c =
    let p = c.requires in
    let w = c.walk-value.ensures _ _ (walk_can p.4.asks) in
    (_, record_has p.4 w c.in_default.is c.append_block_param-d.ensures)

pub record_stack_map_binding-requires : goal.record_stack_map_binding-requires
record_stack_map_binding-requires c =
    let p = c.requires in
    (_, binding_has p.4 (c.walk-value.ensures _ _ (walk_can p.4.asks)) c.in_default.is c.append_block_param-d.ensures c.record_def.ensures)

pub is_sealed-requires : goal.is_sealed-requires
is_sealed-requires c = let p = c.requires in block_low p.4 (c.walk-value.ensures _ _ (walk_can p.4.asks))

pub begin_predecessors_lookup-e-requires : goal.begin_predecessors_lookup-e-requires
begin_predecessors_lookup-e-requires c =
    let p = c.requires in
    (p.0, p.2, p.3, begin_can p.4 (c.walk-value.ensures _ _ (walk_can p.4.asks)) c.in_default.is c.append_block_param-d.ensures)

pub returns-then-is_sealed : goal.returns-then-is_sealed
returns-then-is_sealed c =
    λ g s ts rs h.
    finds_sealed h (c.walk-value.ensures g s (walk_can h.asks)) c.in_default.is c.append_block_param-d.ensures c.record_def.ensures
    c.is_marked.ensures c.record_stack_map_binding.ensures c.is_sealed.ensures c.if-is_sealed.true refl refl c.begin_predecessors_lookup-e.ensures

pub push_pending-requires : goal.push_pending-requires
push_pending-requires c =
    let p = c.requires in (
      _,
      wait_can p.4 (c.walk-value.ensures _ _ (walk_can p.4.asks)) c.in_default.is c.append_block_param-d.ensures c.record_def.ensures
          c.is_marked.ensures c.record_stack_map_binding.ensures,
    )

pub returns : goal.returns
returns c =
    λ g s ts rs h.
    finds_open h (c.walk-value.ensures g s (walk_can h.asks)) c.in_default.is c.append_block_param-d.ensures c.record_def.ensures
    c.is_marked.ensures c.record_stack_map_binding.ensures c.is_sealed.ensures c.if-is_sealed.false refl refl
    c.push_pending.ensures c.push_result-e.ensures
