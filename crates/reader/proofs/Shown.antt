-- In the tables that a session leaves a row is the list that the definition has: its cells are the count and then the entries, and no list is longer than
-- its room.
-- Assumes nothing.
use Prim.Native.Nat.{ℕ, ◌+◌, ◌*◌, ◌/◌, ◌%◌, ◌≤◌, ◌<◌}
use mathlib.Core.Path.{◌≡◌, refl, sym, ap, ◌∙◌, subst}
use mathlib.Core.Bool.{true}
use mathlib.Core.List.{List}
use native.Mathlib.Omega.{arith}
use borrow.Author.Tests.{ltb-true}
use borrow.Table.Elements.{take-le}
use lib.Arith.{digits_lt}
use lib.ListN.{length, get_or, take, drop, length-drop}
use lib.Seq.{length-take-le, get_or-take, get_or-drop, ext_get_or}
use denote.Ref.{Bor}
use Rattle.entity.specs.Limits.{limits}
use Rattle.definition.specs.Base.{◌<?◌}
use Rattle.definition.specs.Form.{Graph, Form}
use Rattle.definition.specs.Session.{Call, session}
use Rattle.definition.specs.Whole.{needs}
use Rattle.meaning.specs.Rooms.{Rooms}
use Rattle.meaning.proofs.Maps.{and_both}
use Rattle.meaning.proofs.Theorems.{rooms_suffice}
use Rattle.layout.specs.Cells.{Table, sum, base, Holds}
use Rattle.layout.specs.Layout.{param_row, form_sizes, form_tables}
use Rattle.layout.specs.Outcome.{Lent, first, shown}
use Rattle.layout.specs.Rows.{Row}
use Rattle.layout.proofs.Cells.{within, render_held}
use Rattle.layout.proofs.Grids.{pair_at, row_among}
use Rattle.layout.proofs.Rows.{row_count, row_entry}
use Rattle.reader.specs.declared.Asked.{Asked}
use Rattle.reader.specs.declared.Asked.TheVariants.{Params, Args}
use Rattle.reader.specs.Rows.{named, head, known, row_of, code_of, IsRow}
use Rattle.reader.specs.Left.{table_number, table_in, listed}
use Rattle.reader.proofs.Known.{known_row}

-- a row that holds a list is read as that list
module _ (t : List ℕ) (a : Asked) (xs : List ℕ) (n : named a ≡ true) (r : Row t (head a) param_row xs) where
  count : get_or t (head a) 0 ≡ length xs
  count = row_count t (head a) param_row xs r

  row_known : known t a ≡ true
  row_known = known_row t a n r.fits (omega (arith, count, r.few))

  abbrev got : List ℕ
  got = take (length xs) (drop (head a + 1) t)

  got_long : length got ≡ length xs
  got_long = length-take-le (length xs) (drop (head a + 1) t) (omega (arith, length-drop (head a + 1) t, r.few, r.fits))

  got_at : (i : ℕ) → i < length got → get_or got i 0 ≡ get_or xs i 0
  got_at i lt =
      get_or-take (length xs) (drop (head a + 1) t) i 0 (omega (arith, got_long)) ∙ get_or-drop (head a + 1) t i 0
      ∙ row_entry t (head a) param_row xs r i (omega (arith, got_long, r.few))

  row_read : take (row_of t a).1 (drop (row_of t a).0 t) ≡ xs
  row_read = rw (row_known, count) (ext_get_or 0 got xs got_long got_at)

-- a row in a part of the cells
row_in_part : (l xs : List ℕ) (b n h w : ℕ) → b + n ≤ length l → h + w ≤ n → Row l (b + h) w xs → Row (take n (drop b l)) h w xs
row_in_part l xs b n h w fits inside r = record {
  fits = omega (arith, length-take-le n (drop b l) (omega (arith, length-drop b l)));
  at = λ i lt. let e : b + (h + i) ≡ b + h + i = omega arith in
      get_or-take n (drop b l) (h + i) 0 (omega arith) ∙ get_or-drop b l (h + i) 0 ∙ ap (λ (k : ℕ). get_or l k 0) e ∙ r.at i lt;
  few = r.few;
}

-- cells whose first ones hold the tables hold them
holds_whole : (sizes l : List ℕ) (M : List Table) → Holds sizes (take (sum sizes) l) M → Holds sizes l M
holds_whole sizes l M h = record {
  long = omega (arith, h.long, take-le (sum sizes) l);
  at = λ t j lt. sym (get_or-take (sum sizes) l (base sizes t + j) 0 (within sizes t j lt)) ∙ h.at t j lt;
}

module _ (g : Graph) (s : Form) (R : Rooms g s) (l : List ℕ) (h : Holds form_sizes l (form_tables s)) where
  -- every row that can be named is in the form's cells
  row_in_form : (a : Asked) → named a ≡ true
      → (head a + param_row ≤ get_or form_sizes (table_number a) 0) × Row l (base form_sizes (table_number a) + head a) param_row (listed s a)
  row_in_form (Params b) n =
      let lt = ltb-true b.0 limits.blocks n in (
        omega arith,
        row_among form_sizes l (form_tables s) (table_number (Params b)) h param_row s.params b.0 refl (omega arith)
            (omega (arith, R.params b.0)),
      )
  row_in_form (Args p i) n =
      let q = and_both (p.0 <? limits.blocks) (i <? limits.dests) n in
      let li = ltb-true i limits.dests q.1 in
      let lt = digits_lt (ltb-true p.0 limits.blocks q.0) li in
      let c = p.0 * limits.dests + i in
      let k = table_number (Args p i) in (
        omega arith,
        subst (λ (xs : List ℕ). Row l (base form_sizes k + c * param_row) param_row xs) (pair_at limits.dests s.args p.0 i li)
            (row_among form_sizes l (form_tables s) k h param_row (λ r. s.args (r / limits.dests) (r % limits.dests)) c refl (omega arith)
            (omega (arith, R.args (c / limits.dests) (c % limits.dests)))),
      )

  -- so it is in the table that a host lends
  row_in_table : (a : Asked) → named a ≡ true → Row (table_in l a) (head a) param_row (listed s a)
  row_in_table a n =
      let q = row_in_form a n in
      row_in_part l (listed s a) (base form_sizes (table_number a)) (get_or form_sizes (table_number a) 0) (head a) param_row (table_fits a) q.0 q.1
    where
      table_fits : (a : Asked) → base form_sizes (table_number a) + get_or form_sizes (table_number a) 0 ≤ length l
      table_fits (Params b) = omega (arith, h.long)
      table_fits (Args p i) = omega (arith, h.long)

-- What a host has after a session, whose needed cells show it: the table to look in, a part of the form's cells, has every row that can be named, and the
-- row's entries are the definition's list.
pub rows_shown : (cs : List Call) (left : Lent) (n : ℕ) → first (needs n) left ≡ shown (session cs) → (a : Asked) → named a ≡ true
    → let t = table_in left.form a in (code_of t a ≡ 0) × (take (row_of t a).1 (drop (row_of t a).0 t) ≡ listed (session cs).form a)
rows_shown cs left n e a is_named =
    let s = (session cs).form in
    let t = table_in left.form a in
    let h = holds_whole form_sizes left.form (form_tables s) (render_held form_sizes _ (form_tables s) (ap (λ (u : Lent). u.form) e)) in
    let r = row_in_table (session cs).graph s (rooms_suffice cs) left.form h a is_named in
    (rw (row_known t a (listed s a) is_named r), row_read t a (listed s a) is_named r)

-- So `row`, lent that table, answers the definition's list, and the code is 0: for every block below the limit, and every branch and place below theirs.
pub row_shown : (cs : List Call) (left : Lent) (n : ℕ) → first (needs n) left ≡ shown (session cs) → (a : Asked) → named a ≡ true
    → {t r : Bor (List ℕ)} {code : ℕ} → t.now ≡ table_in left.form a → IsRow t a r → code ≡ code_of t.now a
    → (r.now ≡ listed (session cs).form a) × (code ≡ 0)
row_shown cs left n e a is_named p q c =
    let shows = rows_shown cs left n e a is_named in
    (q.cells ∙ rw p shows.1, c ∙ rw p shows.0)
