-- Whether a table has a row, and where it then lies: each test of `locate` fixes one of the three conjuncts of `known`.
-- Assumes nothing.
use Rattle.std.specs.Prelude.{if◌then◌else◌}
use Prim.Native.Nat.{ℕ, ◌+◌, ◌-◌, ◌*◌, ◌≤◌, ◌<◌}
use mathlib.Core.Path.{◌≡◌, refl, ap, ◌∙◌}
use mathlib.Core.Bool.{Bool, true, false, and-false, ◌&&◌}
use mathlib.Core.List.{List}
use native.Mathlib.Nat.{add-sub_cancel_left}
use native.Mathlib.Omega.{arith}
use borrow.Author.Tests.{leb-true, le-leb, lt-leb}
use lib.ListN.{length, get_or, take, drop, length-drop}
use lib.Seq.{length-take-le}
use denote.Ref.{Bor}
use Rattle.entity.specs.Limits.{limits, param_room}
use Rattle.definition.specs.Base.{◌≤?◌}
use Rattle.meaning.proofs.Maps.{and_both}
use Rattle.layout.specs.Layout.{param_row}
use Rattle.reader.specs.declared.Asked.{Asked}
use Rattle.reader.specs.Rows.{named, number, head, known, row_of, Located, IsRow}

module _ (t : List ℕ) (a : Asked) where
  abbrev whole : Bool
  whole = head a + param_row ≤? length t

  abbrev few : Bool
  few = get_or t (head a) 0 ≤? param_room limits

  -- the row, by whether the table has it
  abbrev pub row_if : Bool → ℕ × ℕ
  row_if z = if z then (head a + 1, get_or t (head a) 0) else (0, 0)

  located : {z : Bool} → known t a ≡ z → Located t a (if z then 0 else 6) (row_if z).0 (row_if z).1
  located e = record { code_is = rw e; start_is = rw e; length_is = rw e }

  pub unnamed : named a ≡ false → Located t a 6 0 0
  unnamed e = located (ap (λ (z : Bool). z && whole && few) e)

  pub known_row : named a ≡ true → head a + param_row ≤ length t → get_or t (head a) 0 ≤ param_room limits → known t a ≡ true
  known_row e l m = rw (e, le-leb (head a + param_row) (length t) l, le-leb (get_or t (head a) 0) (param_room limits) m)

  -- n is the row's number
  module _ {n : ℕ} (is : n ≡ number a) where
    pub short : length t < n * param_row + param_row → Located t a 6 0 0
    short l =
        located
        (ap (λ (z : Bool). named a && z && few) (lt-leb (head a + param_row) (length t) (rw is at l)) ∙ ap (λ (z : Bool). z && few) (and-false (named a)))

    pub past : param_room limits < get_or t (n * param_row) 0 → Located t a 6 0 0
    past l = located (ap (λ (z : Bool). named a && whole && z) (lt-leb (get_or t (head a) 0) (param_room limits) (rw is at l)) ∙ and-false (named a && whole))

    pub there : named a ≡ true → n * param_row + param_row ≤ length t → get_or t (n * param_row) 0 ≤ param_room limits
        → Located t a 0 (n * param_row + 1) (get_or t (n * param_row) 0)
    there e l m = rw is (located (known_row e (rw is at l) (rw is at m)))

  -- the entries lie in the table
  pub row_within : (row_of t a).0 + (row_of t a).1 ≤ length t
  row_within = by (known t a) refl
    where
      by : (z : Bool) → known t a ≡ z → (row_if z).0 + (row_if z).1 ≤ length t
      by false e = omega arith
      by true e =
          let p = and_both (named a && whole) few e in
          let l = leb-true (head a + param_row) (length t) (and_both (named a) whole p.0).1 in
          omega (arith, leb-true (get_or t (head a) 0) (param_room limits) p.1)

  row_length : length (take (row_of t a).1 (drop (row_of t a).0 t)) ≡ (row_of t a).1
  row_length = length-take-le (row_of t a).1 (drop (row_of t a).0 t) (omega (arith, row_within, length-drop (row_of t a).0 t))

module _ {a : Asked} {code s n : ℕ} where
  pub located_within : {t : List ℕ} → Located t a code s n → s + n ≤ length t
  located_within {t} f = rw (f.start_is, f.length_is) (row_within t a)

  -- the part from cell s to cell s + n is the row
  pub located_part : {t : Bor (List ℕ)} → Located t.now a code s n
      → IsRow t a record { ref_ptr = (t.ref_ptr.0, s * 4 + t.ref_ptr.1); now = take (s + n - s) (drop s t.now) }
  located_part {t} f =
      let e : take (s + n - s) (drop s t.now) ≡ take (row_of t.now a).1 (drop (row_of t.now a).0 t.now)
      = rw (add-sub_cancel_left, f.start_is, f.length_is) in
      record { start = rw f.start_is; long = ap length e ∙ row_length t.now a; cells = e }
