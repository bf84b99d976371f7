-- The rows that are drawn lie in the tables, since their counts are within the limits.
-- Assumes nothing.
use Prim.Native.Nat.{ℕ, ◌+◌, ◌<◌, ◌≤◌}
use mathlib.Core.Path.{◌≡◌, ap, ◌∙◌, subst⁻¹}
use mathlib.Core.List.{List}
use native.Mathlib.Omega.{arith}
use lib.ListN.{length, get_or, drop, length-drop}
use lib.Seq.{length-take-le}
use Rattle.entity.specs.Limits.{limits, zero_room}
use Rattle.layout.specs.Rows.{Readable, entries}
use Rattle.drawable.specs.Drawable.{Listed}

-- a row that the code finds at cell a
module _ (cells : List ℕ) {room a a' : ℕ} (e : a ≡ a') (few : get_or cells a' 0 ≤ room) (small : room ≤ zero_room limits) (whole : a' + room < length cells) where
  pub row_readable : Readable cells a
  row_readable = subst⁻¹ (Readable cells) e record { there = omega arith; few = omega arith }

  pub row_listed : {xs : List ℕ} → xs ≡ entries cells a → Listed cells a' xs
  row_listed p =
      let q = p ∙ ap (entries cells) e in
      record { are = q; count = ap length q ∙ length-take-le (get_or cells a' 0) (drop (a' + 1) cells) (omega (arith, length-drop (a' + 1) cells)) }
