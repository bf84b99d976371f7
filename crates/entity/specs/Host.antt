-- What a host is told: the limits, and each room that it must lend.
-- Assumes nothing.
use Rattle.std.specs.Prelude.{◌≡◌}
use Rattle.entity.specs.Limits.{limits, zero_room, value_room, wait_room, param_room, pred_room, call_room, result_room, graph_need, form_need, work_need}
use Rattle.entity.specs.declared.Limits.{Limits}
use Rattle.entity.specs.declared.Rooms.{Rooms}

-- r is the limits that specs/Limits.antt sets
pub record InForce (r : Limits) : Type 0 where
  pub blocks : r.blocks ≡ limits.blocks
  pub variables : r.variables ≡ limits.variables
  pub dests : r.dests ≡ limits.dests
  pub made : r.made ≡ limits.made
  pub owns : r.owns ≡ limits.own_params
  pub calls : r.calls ≡ limits.calls

-- r is the rooms that specs/Limits.antt works out from them
pub record Needed (r : Rooms) : Type 0 where
  pub values : r.values ≡ value_room limits
  pub zeros : r.zeros ≡ zero_room limits
  pub params : r.params ≡ param_room limits
  pub waits : r.waits ≡ wait_room limits
  pub preds : r.preds ≡ pred_room limits
  pub calls : r.calls ≡ call_room limits
  pub results : r.results ≡ result_room limits
  pub graph : r.graph ≡ graph_need limits
  pub form : r.form ≡ form_need limits
  pub work : r.work ≡ work_need limits
