-- The promises of `row` and of the code leave nothing open, and they agree, since both go by `known`; and so does what `find_row` answers.
-- Assumes nothing.
use Rattle.std.specs.Prelude.{Some, None}
use Prim.Native.Nat.{ℕ}
use mathlib.Core.Path.{◌≡◌, refl, sym, ◌∙◌}
use mathlib.Core.Bool.{Bool, true, false}
use mathlib.Core.List.{List}
use native.Mathlib.Omega.{arith}
use lib.ListN.{length, get_or}
use denote.Ref.{Bor}
use Rattle.reader.specs.declared.Asked.{Asked}
use Rattle.reader.specs.Rows.{head, known, code_of, FindsRow, IsRow}

module _ {t : Bor (List ℕ)} {a : Asked} {r : Bor (List ℕ)} {code : ℕ} (p : IsRow t a r) (e : code ≡ code_of t.now a) where
  -- Any two answers that meet the promises are the same: the parts start in the same place and hold the same, and the codes are equal.
  pub determined : {r' : Bor (List ℕ)} {code' : ℕ} → IsRow t a r' → code' ≡ code_of t.now a
      → (r.ref_ptr ≡ r'.ref_ptr) × (r.now ≡ r'.now) × (code ≡ code')
  determined p' e' = (p.start ∙ sym p'.start, p.cells ∙ sym p'.cells, e ∙ sym e')

  -- where the table hasn't the row, the code is 6 and the part is empty
  pub no_row : known t.now a ≡ false → (code ≡ 6) × (length r.now ≡ 0)
  no_row k = (rw k at e, rw k at p.long)

  -- where it has the row, the code is 0 and the part is as long as the count says: if that is 0, this row is truly empty
  pub has_row : known t.now a ≡ true → (code ≡ 0) × (length r.now ≡ get_or t.now (head a) 0)
  has_row k = (rw k at e, rw k at p.long)

  -- so the code is 6 only for want of a row
  pub only_then_6 : code ≡ 6 → known t.now a ≡ false
  only_then_6 six = by (known t.now a) refl
    where
      by : (z : Bool) → known t.now a ≡ z → known t.now a ≡ false
      by false k = k
      by true k = absurd (omega (arith, (has_row k).0))

module _ (t : Bor (List ℕ)) (a : Asked) where
  -- `find_row` answers none only for want of a row
  pub none_found : FindsRow t a None → known t.now a ≡ false
  none_found six = by (known t.now a) refl
    where
      by : (z : Bool) → known t.now a ≡ z → known t.now a ≡ false
      by false k = k
      by true k = absurd (omega (arith, rw k at six))

  -- and what it finds is the row
  pub row_found : {r : Bor (List ℕ)} → FindsRow t a (Some r) → (known t.now a ≡ true) × IsRow t a r
  row_found f = (by (known t.now a) refl, f.0)
    where
      by : (z : Bool) → known t.now a ≡ z → known t.now a ≡ true
      by true k = k
      by false k = absurd (omega (arith, rw k at f.1))
