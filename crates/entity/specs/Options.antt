-- A value or a block that may be missing: the optional number that each case stands for.
-- Assumes nothing.
use Rattle.std.specs.Prelude.{ℕ, Option as OptionOf, Some, None}
use Rattle.std.proofs.Math.Option.{Option, none, some}
use Rattle.entity.specs.declared.Value.{Value}
use Rattle.entity.specs.declared.Block.{Block}

abbrev pub value_of : OptionOf Value → Option ℕ
value_of (Some x) = some x.0
value_of None = none

abbrev pub block_of : OptionOf Block → Option ℕ
block_of (Some b) = some b.0
block_of None = none
