-- `Type::shape` meets its contract: the table's entries are those that the rules give, one by one by computation, and past it there is nothing to know.
-- Assumes nothing.
use Rattle.std.proofs.Common.{rules, ◌<◌}
use Rattle.entity.specs.Types.{type_count}
use Rattle.entity.proofs.Laws.{in_table, past_table}
use Rattle.entity.proofs.Type.shape.Goals as goal

pub returns-in-Some : goal.returns-in-Some
returns-in-Some c = let n : c.args.self.0 < type_count = search rules in let t = in_table c.in-Some.shape.now _ n in search (rules, t)

pub returns-in-None : goal.returns-in-None
returns-in-None c = past_table _ (search rules)
