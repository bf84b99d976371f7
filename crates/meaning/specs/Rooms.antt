-- The rooms of the tables: how much of each a session can come to fill. Assumes nothing.
use Rattle.std.specs.Prelude.{ℕ, ◌≤◌, length}
use Rattle.entity.specs.Limits.{limits, value_room, zero_room, wait_room, param_room, pred_room}
use Rattle.definition.specs.Base.{Block}
use Rattle.definition.specs.Form.{Graph, Form}

-- No table ever needs more than its room, so no use and no seal has to be refused for room.
pub record Rooms (g : Graph) (s : Form) : Type 0 where
  pub blocks : g.blocks ≤ limits.blocks
  pub variables : length g.types ≤ limits.variables
  pub made : s.makes ≤ limits.made
  pub values : s.next ≤ value_room limits
  pub zeros : length s.zeros ≤ zero_room limits
  pub params : (b : Block) → length (s.params b) ≤ param_room limits
  pub args : (p : Block) (i : ℕ) → length (s.args p i) ≤ param_room limits
  pub waits : (b : Block) → length (s.pending b) ≤ wait_room limits
  pub preds : (b : Block) → length (g.preds b) ≤ pred_room limits
  pub dests : (p : Block) → length (g.dests p) ≤ limits.dests
  pub placed : length s.placed ≤ pred_room limits
