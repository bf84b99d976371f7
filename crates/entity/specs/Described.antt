-- What a value is, in one cell: its type in the lowest five bits, its sort in the next two, its mark in one, and its block above them.
-- Assumes nothing.
use Rattle.std.specs.Prelude.{ℕ, ◌+◌, ◌*◌, ◌/◌, ◌%◌, ◌<◌, ◌≡◌}
use Rattle.entity.specs.Limits.{limits}
use Rattle.entity.specs.declared.Described.{Described}
use Rattle.entity.specs.declared.Sort.{Sort}
use Rattle.entity.specs.declared.Sort.TheVariants.{Made, Param, Zero, Caller}

-- how many types, sorts and marks a cell can tell apart
abbrev pub type_room : ℕ
type_room = 32

abbrev pub sort_room : ℕ
sort_room = 4

abbrev pub mark_room : ℕ
mark_room = 2

-- a sort's number
abbrev pub number_of : Sort → ℕ
number_of Made = 0
number_of Param = 1
number_of Zero = 2
number_of Caller = 3

-- the cell of a type, a sort, a mark and a block
abbrev pub packed : ℕ → ℕ → ℕ → ℕ → ℕ
packed ty k m b = ((b * mark_room + m) * sort_room + k) * type_room + ty

-- this type, this sort and this block have room in a cell
pub record Fits (ty k b : ℕ) : Type 0 where
  pub type : ty < type_room
  pub sort : k < sort_room
  pub block : b < limits.blocks

-- the cell holds these parts, and some mark
pub record Parts (cell : ℕ) (d : Described) : Type 0 where
  pub type : d.ty < type_room
  pub sort : number_of d.sort < sort_room
  pub mark : ℕ
  pub small : mark < mark_room
  pub whole : cell ≡ packed d.ty (number_of d.sort) mark d.block.0

-- a cell's mark; and the cell of the same parts that is marked
abbrev pub mark_of : ℕ → ℕ
mark_of cell = cell / type_room / sort_room % mark_room

abbrev pub with_mark : ℕ → ℕ
with_mark cell = packed (cell % type_room) (cell / type_room % sort_room) 1 (cell / type_room / sort_room / mark_room)
