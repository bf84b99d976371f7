-- The code's table of types is what the rules give: each of its entries is computed, and each tells the facts of the type with its number. The unset values of
-- the floats are quiet NaNs: by computation.
-- Assumes nothing.
use Prim.Native.Nat.{ℕ, zero, suc, ◌+◌, ◌<◌, ◌≤◌, ◌%◌, ◌/◌, ◌^◌}
use mathlib.Core.Path.{◌≡◌, refl, ap, ◌∙◌, subst}
use mathlib.Core.Bool.{Bool, true, false, cond}
use mathlib.Core.Option.{Option, none, some, some-injective, none-ne-some}
use mathlib.Core.List.{List, [], ◌∷◌}
use native.Mathlib.Omega.{arith}
use lib.Dec.{ltb, leb, ltb→lt, nltb→le}
use lib.ListN.{length, get_or, get_or-eq_default}
use Rattle.entity.specs.Types.{Kind, vector, i8, f16, f32, f64, f128, types, type_count, kind_of, lane_of, lanes_of, width_of, unset_of, step_of}
use Rattle.entity.specs.Types.{Lane, integer, float, scalar, i64, held_of, scalar_in, step_in, number_found, Shaped, QuietNan}
use Rattle.std.specs.Prelude.{Option as OptionOf, Some, None}
use Rattle.entity.specs.declared.«Type».{«Type» as TypeNumber}
use Rattle.entity.specs.declared.Shape.{Shape}

-- the type with this number, if there is one
abbrev type_given : Option ℕ → OptionOf TypeNumber
type_given none = None
type_given (some n) = Some (record { 0 = n })

given_back : (o : Option ℕ) → number_found (type_given o) ≡ o
given_back none = refl
given_back (some n) = refl

-- the entry of type n
abbrev entry_of : ℕ → Shape
entry_of n = record {
  0 = record { 0 = n };
  1 = record { 0 = lane_of n };
  2 = lanes_of n;
  3 = width_of n;
  4 = type_given (step_of n);
  5 = unset_of n % 2 ^ 64;
  6 = unset_of n / 2 ^ 64;
}

entry_shaped : (n : ℕ) → Shaped n (entry_of n)
entry_shaped n = record { number = refl; lane = refl; lanes = refl; width = refl; step = given_back (step_of n); unset = record { below = refl; above = refl } }

-- one entry for each of these types, numbered from i on
abbrev entries : ℕ → List Kind → List Shape
entries i [] = []
entries i (k ∷ ks) = entry_of i ∷ entries (suc i) ks

among : (d : Shape) (ks : List Kind) (i k : ℕ) → k < length ks → get_or (entries i ks) k d ≡ entry_of (i + k)
among d [] i k h = absurd (omega arith)
among d (t ∷ ks) i zero h = let here : i ≡ i + 0 = omega arith in ap entry_of here
among d (t ∷ ks) i (suc k) h = let there : suc i + k ≡ i + suc k = omega arith in among d ks (suc i) k (omega arith) ∙ ap entry_of there

pub in_table : (d : Shape) (n : ℕ) → n < type_count → Shaped n (get_or (entries 0 types) n d)
in_table d n h = let here : 0 + n ≡ n = omega arith in rw (among d types 0 n h, here) (entry_shaped n)

-- past the table nothing is known
pub past_table : (n : ℕ) → type_count ≤ n → Shaped n (record { 0 = record { 0 = n }; 1 = record { 0 = 0 }; 2 = 0; 3 = 0; 4 = None; 5 = 0; 6 = 0 })
past_table n h =
    let k : kind_of n ≡ vector i8 0 = get_or-eq_default types (vector i8 0) h in
    record { number = refl; lane = rw k; lanes = rw k; width = rw k; step = rw k; unset = record { below = rw k; above = rw k } }

-- t is a type, and its zero takes one step
pub record OneStep (t : ℕ) : Type 0 where
  pub known : t < type_count
  pub plain : step_of t ≡ none

float_step : (t e f : ℕ) → kind_of t ≡ scalar (float e f) → OneStep t
float_step t e f q = record { known = by (ltb t type_count) refl; plain = rw (q, q) refl }
  where
    by : (c : Bool) → ltb t type_count ≡ c → t < type_count
    by true k = ltb→lt t type_count (rw k tt)
    by false k =
        let past : kind_of t ≡ vector i8 0 = get_or-eq_default types (vector i8 0) (nltb→le t type_count (rw k tt)) in
        absurd (let z : ◌≡◌ {A = ℕ} 0 1 = cc in omega arith)

-- the first of two steps is plain: 64 bits are not too many, and a lane is a scalar
pub step_plain : (n t : ℕ) → step_of n ≡ some t → OneStep t
step_plain n t e = by_lane (held_of n) refl e
  where
    chosen : (c : Bool) (u : ℕ) → cond c none (some u) ≡ some t → u ≡ t
    chosen true u k = absurd (none-ne-some t k)
    chosen false u k = some-injective _ _ k

    by_kind : (k : Kind) (x f : ℕ) → kind_of (lane_of n) ≡ k → scalar_in k ≡ float x f → OneStep (lane_of n)
    by_kind (scalar l) x f q h = float_step (lane_of n) x f (q ∙ ap scalar h)
    by_kind (vector u k) x f q h = absurd (let z : ◌≡◌ {A = ℕ} 0 1 = cc in omega arith)

    by_lane : (l : Lane) → held_of n ≡ l → step_in (lane_of n) (lanes_of n) l ≡ some t → OneStep t
    by_lane (integer w) h k = subst OneStep (chosen (leb w 64) i64 k) (record { known = omega arith; plain = refl })
    by_lane (float x f) h k = subst OneStep (chosen (leb (lanes_of n) 1) (lane_of n) k) (by_kind (kind_of (lane_of n)) x f refl h)

pub quiet_f16 : QuietNan 5 10 (unset_of f16)
quiet_f16 = record { sign = refl; exponent = refl; fraction = refl }

pub quiet_f32 : QuietNan 8 23 (unset_of f32)
quiet_f32 = record { sign = refl; exponent = refl; fraction = refl }

pub quiet_f64 : QuietNan 11 52 (unset_of f64)
quiet_f64 = record { sign = refl; exponent = refl; fraction = refl }

pub quiet_f128 : QuietNan 15 112 (unset_of f128)
quiet_f128 = record { sign = refl; exponent = refl; fraction = refl }
