-- The parts of a cell: any cell is its parts packed, and two packings agree only in equal parts. For a cell is a number by its digits: each part is below
-- its room, and the block stands above them all.
-- Assumes nothing.
use Prim.Native.Nat.{ℕ, ◌+◌, ◌*◌, ◌/◌, ◌%◌, ◌<◌}
use mathlib.Core.Path.{◌≡◌}
use native.Mathlib.Omega.{arith}
use Rattle.entity.specs.declared.Described.{Described}
use Rattle.entity.specs.Described.{type_room, sort_room, mark_room, number_of, packed, Parts, mark_of, with_mark}

-- what `%` and `/` take from a cell are its parts
pub parts : (cell : ℕ) (d : Described) → d.ty ≡ cell % type_room → number_of d.sort ≡ cell / type_room % sort_room → d.block.0 ≡ cell / type_room / sort_room / mark_room
    → Parts cell d
parts cell d t s b = record {
  type = omega arith;
  sort = omega arith;
  mark = cell / type_room / sort_room % mark_room;
  small = omega arith;
  whole = omega arith;
}

module _ (ty k m b ty' k' m' b' : ℕ) (t : ty < type_room) (t' : ty' < type_room) (e : packed ty k m b ≡ packed ty' k' m' b') where
  pub packed_type : ty ≡ ty'
  packed_type = omega arith

  module _ (s : k < sort_room) (s' : k' < sort_room) where
    pub packed_sort : k ≡ k'
    packed_sort = omega arith

    module _ (o : m < mark_room) (o' : m' < mark_room) where
      pub packed_mark : m ≡ m'
      packed_mark = omega arith

      pub packed_block : b ≡ b'
      packed_block = omega arith

-- what is below the mark is left, and so is what is above it
pub marked_is : (cell : ℕ) → with_mark cell ≡ (cell / (type_room * sort_room) / mark_room * mark_room + 1) * (type_room * sort_room) + cell % (type_room * sort_room)
marked_is cell = omega arith

-- the mark of a packing; the packing with its mark set
module _ (ty k m b : ℕ) (t : ty < type_room) (s : k < sort_room) (o : m < mark_room) where
  pub mark_packed : mark_of (packed ty k m b) ≡ m
  mark_packed = omega arith

  pub marked_packed : with_mark (packed ty k m b) ≡ packed ty k 1 b
  marked_packed = omega arith
