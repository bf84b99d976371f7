-- What a host reads by rows after an accepted session is the definition's, and so is what it learns of the values recorded for stack maps: the promises of
-- `session` and of the readers put together.
-- Assumes nothing.
use Prim.Native.Nat.{ℕ, ◌<◌}
use mathlib.Core.Path.{◌≡◌, ap, ◌∙◌}
use mathlib.Core.Bool.{true}
use mathlib.Core.List.{List}
use lib.ListN.{length, take, drop}
use denote.Ref.{Bor}
use Rattle.definition.specs.Session.{session, bit}
use Rattle.definition.specs.Whole.{calls}
use Rattle.layout.specs.Outcome.{Lent}
use Rattle.reader.specs.declared.Asked.{Asked}
use Rattle.reader.specs.Rows.{named, code_of, Located, IsRow}
use Rattle.reader.specs.Left.{table_in, listed}
use Rattle.reader.specs.Marks.{IsRecorded}
use Rattle.reader.proofs.Shown.{rows_shown, row_shown}
use Rattle.reader.proofs.Marks.{descriptions, recorded_shown}
use Rattle.session.specs.Ends.{Ended}
use Rattle.session.proofs.Determined.{cells_show}

module _ (ks xs ys zs : List ℕ) {before after : Lent} (h : Ended ks xs ys zs before after 0) (a : Asked) (n : named a ≡ true) where
  -- what `row` hands out, and the code, of the table of the form that has the row
  pub row_after : {t r : Bor (List ℕ)} {code : ℕ} → t.now ≡ table_in after.form a → IsRow t a r → code ≡ code_of t.now a
      → (r.now ≡ listed (session (calls ks xs ys zs)).form a) × (code ≡ 0)
  row_after = row_shown (calls ks xs ys zs) after (length ks) (cells_show ks xs ys zs h) a n

  -- the same from C: the cells that `sangvireb_params` or `sangvireb_args` tells of
  pub located_after : {code start long : ℕ} → Located (table_in after.form a) a code start long
      → (take long (drop start (table_in after.form a)) ≡ listed (session (calls ks xs ys zs)).form a) × (code ≡ 0)
  located_after l =
      let shows = rows_shown (calls ks xs ys zs) after (length ks) (cells_show ks xs ys zs h) a n in
      (rw (l.start_is, l.length_is) shows.1, l.code_is ∙ shows.0)

module _ (ks xs ys zs : List ℕ) {before after : Lent} (h : Ended ks xs ys zs before after 0) where
  -- what `sangvireb_recorded` tells of a value that is there, lent as many descriptions as there are values
  pub recorded_after : {code number : ℕ} (x : ℕ) → x < (session (calls ks xs ys zs)).form.next
      → IsRecorded (descriptions after.form (session (calls ks xs ys zs)).form.next) x code number
      → (code ≡ 0) × (number ≡ bit ((session (calls ks xs ys zs)).form.recorded x))
  recorded_after x lt r =
      let e = recorded_shown (calls ks xs ys zs) after (length ks) (cells_show ks xs ys zs h) x lt in
      (r.code_is ∙ ap (λ (p : ℕ × ℕ). p.0) e, r.number_is ∙ ap (λ (p : ℕ × ℕ). p.1) e)
