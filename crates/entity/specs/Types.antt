-- The types, a line each: what a lane holds and how many there are. Width, steps of a zero and bits of the unset value follow from that by one rule each.
-- Assumes nothing.
use Rattle.std.specs.Prelude.{ℕ, zero, suc, ◌+◌, ◌-◌, ◌*◌, ◌/◌, ◌%◌, ◌^◌}
use Rattle.std.specs.Prelude.{◌≡◌, cond, List, [], ◌∷◌, ltb, leb, length, get_or, Option as OptionOf, Some, None}
use Rattle.std.proofs.Math.Option.{Option, none, some}
use Rattle.entity.specs.declared.«Type».{«Type» as TypeNumber}
use Rattle.entity.specs.declared.Shape.{Shape}

-- an integer of so many bits; a float with so many bits of exponent and of fraction, below its sign
pub data Lane : Type 0 where
  integer : ℕ → Lane
  float : ℕ → ℕ → Lane

-- one lane; or so many lanes of a scalar type, by its number
pub data Kind : Type 0 where
  scalar : Lane → Kind
  vector : ℕ → ℕ → Kind

-- the numbers of the types that vectors have as lanes
abbrev pub i8 : ℕ
i8 = 0

abbrev pub i16 : ℕ
i16 = 1

abbrev pub i32 : ℕ
i32 = 2

abbrev pub i64 : ℕ
i64 = 3

abbrev pub f32 : ℕ
f32 = 4

abbrev pub f64 : ℕ
f64 = 5

abbrev pub f16 : ℕ
f16 = 7

abbrev pub f128 : ℕ
f128 = 8

-- in the order of their numbers
abbrev pub types : List Kind
types =
    scalar (integer 8)  -- 0 I8
    ∷ scalar (integer 16)  -- 1 I16
    ∷ scalar (integer 32)  -- 2 I32
    ∷ scalar (integer 64)  -- 3 I64
    ∷ scalar (float 8 23)  -- 4 F32
    ∷ scalar (float 11 52)  -- 5 F64
    ∷ scalar (integer 128)  -- 6 I128
    ∷ scalar (float 5 10)  -- 7 F16
    ∷ scalar (float 15 112)  -- 8 F128
    ∷ vector i8 2  -- 9 I8X2
    ∷ vector i8 4  -- 10 I8X4
    ∷ vector i8 8  -- 11 I8X8
    ∷ vector i8 16  -- 12 I8X16
    ∷ vector i16 2  -- 13 I16X2
    ∷ vector i16 4  -- 14 I16X4
    ∷ vector i16 8  -- 15 I16X8
    ∷ vector i32 2  -- 16 I32X2
    ∷ vector i32 4  -- 17 I32X4
    ∷ vector i64 2  -- 18 I64X2
    ∷ vector f16 2  -- 19 F16X2
    ∷ vector f16 4  -- 20 F16X4
    ∷ vector f16 8  -- 21 F16X8
    ∷ vector f32 2  -- 22 F32X2
    ∷ vector f32 4  -- 23 F32X4
    ∷ vector f64 2  -- 24 F64X2
    ∷ []

abbrev pub type_count : ℕ
type_count = length types

-- ---- each fact by the type's number; a number that names no type has no lane

abbrev pub kind_of : ℕ → Kind
kind_of n = get_or types n (vector i8 0)

-- the number of the lane's type
abbrev pub lane_in : ℕ → Kind → ℕ
lane_in n (scalar l) = n
lane_in n (vector l k) = l

abbrev pub lane_of : ℕ → ℕ
lane_of n = lane_in n (kind_of n)

abbrev pub lanes_in : Kind → ℕ
lanes_in (scalar l) = 1
lanes_in (vector l k) = k

abbrev pub lanes_of : ℕ → ℕ
lanes_of n = lanes_in (kind_of n)

-- what a lane holds
abbrev pub scalar_in : Kind → Lane
scalar_in (scalar l) = l
scalar_in (vector l k) = integer 0

abbrev pub held_of : ℕ → Lane
held_of n = scalar_in (kind_of (lane_of n))

abbrev pub lane_bits : Lane → ℕ
lane_bits (integer w) = w
lane_bits (float e f) = 1 + e + f

-- in bytes
abbrev pub width_of : ℕ → ℕ
width_of n = lanes_of n * lane_bits (held_of n) / 8

-- The unset value: what a variable of the type holds where it has received nothing. An integer's bits are all clear. A float's are a quiet NaN, so that it
-- shows: the sign is clear, the exponent all ones, and of the fraction only the top bit is set.
abbrev pub unset_lane : Lane → ℕ
unset_lane (integer w) = 0
unset_lane (float e f) = (2 ^ e - 1) * 2 ^ f + 2 ^ (f - 1)

-- k lanes of w bits, each holding x
abbrev pub repeated : ℕ → ℕ → ℕ → ℕ
repeated zero w x = 0
repeated (suc k) w x = repeated k w x * 2 ^ w + x

abbrev pub unset_of : ℕ → ℕ
unset_of n = repeated (lanes_of n) (lane_bits (held_of n)) (unset_lane (held_of n))

-- The type of the first of a zero's two steps, if it has two: there is no constant of an integer of more than 64 bits, which is widened, nor of a vector of
-- floats, which is filled with a scalar.
abbrev pub step_in : ℕ → ℕ → Lane → Option ℕ
step_in l k (integer w) = cond (leb w 64) none (some i64)
step_in l k (float e f) = cond (leb k 1) none (some l)

abbrev pub step_of : ℕ → Option ℕ
step_of n = step_in (lane_of n) (lanes_of n) (held_of n)

-- ---- what the code answers

abbrev pub number_found : OptionOf TypeNumber → Option ℕ
number_found (Some t) = some t.0
number_found None = none

abbrev pub known_number : ℕ → Option ℕ
known_number n = cond (ltb n type_count) (some n) none

abbrev pub plus_one : Option ℕ → ℕ
plus_one none = 0
plus_one (some n) = suc n

-- the unset value of type n has these low 64 bits and these above them
pub record Unset (n low high : ℕ) : Type 0 where
  pub below : low ≡ unset_of n % 2 ^ 64
  pub above : high ≡ unset_of n / 2 ^ 64

-- all that there is to know of type n
pub record Shaped (n : ℕ) (r : Shape) : Type 0 where
  pub number : r.0.0 ≡ n
  pub lane : r.1.0 ≡ lane_of n
  pub lanes : r.2 ≡ lanes_of n
  pub width : r.3 ≡ width_of n
  pub step : number_found r.4 ≡ step_of n
  pub unset : Unset n r.5 r.6

-- The quiet NaN of a float that has e bits of exponent above f bits of fraction, bit by bit.
pub record QuietNan (e f bits : ℕ) : Type 0 where
  pub sign : bits / 2 ^ (e + f) ≡ 0
  pub exponent : bits / 2 ^ f ≡ 2 ^ e - 1
  pub fraction : bits % 2 ^ f ≡ 2 ^ (f - 1)
