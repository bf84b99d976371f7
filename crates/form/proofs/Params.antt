-- Parameters and arguments in the cells: rows of a table, of which one changes or is read; and how many parameters are the caller's, a cell for each block.
-- Assumes nothing.
use Prim.Native.Nat.{ℕ, suc, ◌+◌, ◌-◌, ◌*◌, ◌/◌, ◌%◌, ◌≤◌, ◌<◌}
use mathlib.Core.Path.{◌≡◌, refl, sym, ap, ◌∙◌}
use mathlib.Core.List.{List, ◌∷◌}
use native.Mathlib.Omega.{arith}
use native.Mathlib.Numerals.{add-one}
use lib.ListN.{length, get_or, set, length-append}
use lib.Seq.{get_or-append_seam}
use Rattle.entity.specs.Limits.{limits}
use Rattle.definition.specs.Base.{put, put₂, ◌∷ʳ◌, without}
use Rattle.definition.specs.Form.{Form, Sort, with_owns, with_args}
use Rattle.definition.specs.Read.{make, set_params}
use Rattle.meaning.proofs.Maps.{put_same, put_other}
use Rattle.meaning.proofs.Maps.{put₂_at, put₂_other}
use Rattle.layout.specs.declared.Counts.{Counts}
use Rattle.layout.specs.Cells.{base}
use Rattle.layout.specs.Counts.{more}
use Rattle.layout.specs.Layout.{form_sizes, form_tables, param_row, Shows}
use Rattle.layout.specs.Starts.{args_at, params_at}
use Rattle.layout.specs.Rows.{Row, Readable, Pushable, pushed, sift}
use Rattle.layout.proofs.Cells.{store}
use Rattle.layout.proofs.Rows.{row_count, row_entry, row_readable}
use Rattle.layout.proofs.Grids.{pair_at, other_cell, row_among, rows_changed}
use Rattle.layout.proofs.Removals.{row_sifted}
use Rattle.layout.proofs.Pushes.{rows_can_push, rows_more}
use Rattle.form.specs.Can.{Cells, CanAppend, HasParams, HasParam, NextParam, HasOwns, CanOwn, HasArgs, CanFeed}

-- ---- a parameter more

module _ (l : List ℕ) (c : Counts) (b ty : ℕ) (k : Sort) (s : Form) (l₁ : List ℕ) (p : CanAppend l c b s) (h : Shows l₁ (more c) (make k ty b s)) where
  pub param_room : Pushable l₁ (params_at b)
  param_room = rows_can_push form_sizes l₁ (form_tables (make k ty b s)) 7 h.cells param_row s.params b refl (omega (arith, p.known)) (omega (arith, p.row)) (omega (arith, p.row))

  pub param_appended : (l₂ : List ℕ) → l₂ ≡ pushed l₁ (params_at b) c.values → Shows l₂ (more c) (set_params b (s.params b ∷ʳ s.next) (make k ty b s))
  param_appended l₂ e =
      let xs = s.params b ∷ʳ s.next in
      record {
        cells = rw (e, p.make.shows.next)
            (rows_more form_sizes l₁ (form_tables (make k ty b s)) 7 h.cells param_row s.params b refl (omega (arith, p.known)) (omega (arith, p.row)) s.next (put b xs s.params) (omega arith)
            (put_same b xs s.params) (λ d n. put_other b xs s.params d n));
        next = h.next;
      }

-- ---- a parameter less, and one read

module _ (l : List ℕ) (b : ℕ) (s : Form) (p : HasParams l b s) where
  the_row : Row l (params_at b) param_row (s.params b)
  the_row = row_among form_sizes l (form_tables s) 7 p.cells param_row s.params b refl (omega (arith, p.known)) (omega (arith, p.few))

  pub params_readable : Readable l (params_at b)
  params_readable = row_readable l (params_at b) param_row (s.params b) the_row (omega (arith, p.few))

  pub param_removed : (x : ℕ) (l₁ : List ℕ) → l₁ ≡ sift (params_at b) x (get_or l (params_at b) 0) 0 0 l
      → Cells l₁ (set_params b (without x (s.params b)) s)
  param_removed x l₁ e =
      let xs = without x (s.params b) in
      rw e
      (rows_changed form_sizes l (form_tables s) 7 p.cells param_row s.params b refl (omega (arith, p.known)) (sift (params_at b) x (get_or l (params_at b) 0) 0 0 l)
      (put b xs s.params) (omega arith) (omega arith) (rw put_same (row_sifted l (params_at b) param_row (s.params b) the_row x)) (λ d n. put_other b xs s.params d n))

  count : get_or l (params_at b) 0 ≡ length (s.params b)
  count = row_count l (params_at b) param_row (s.params b) the_row

  entry : (i : ℕ) → i < length (s.params b) → get_or l (params_at b + 1 + i) 0 ≡ get_or (s.params b) i 0
  entry i lt = row_entry l (params_at b) param_row (s.params b) the_row i (omega (arith, p.few))

module _ (l : List ℕ) (b i : ℕ) (s : Form) (p : HasParam l b i s) where
  pub param_is : get_or l (params_at b + 1 + i) 0 ≡ get_or (s.params b) i 0
  param_is = entry l b s p.params i p.there

module _ (l : List ℕ) (b n x : ℕ) (s : Form) (p : NextParam l b n x s) where
  count_is : get_or l (params_at b) 0 ≡ length p.before + n
  count_is = count l b s p.params ∙ ap length p.split ∙ length-append p.before (x ∷ p.after) ∙ omega (arith, p.count)

  pub next_inside : (n ≤ get_or l (params_at b) 0) × (0 < n) × (get_or l (params_at b) 0 < param_row)
      × (b < limits.blocks) × (base form_sizes 8 ≤ length l)
  next_inside =
      let few = p.params.few in
      (omega (arith, count_is), omega (arith, p.count), omega (arith, ap length p.split, length-append p.before (x ∷ p.after), count_is, p.count, few), p.params.known, omega (arith, p.params.cells.long))

  pub next_is : get_or l (params_at b + 1 + (get_or l (params_at b) 0 - n)) 0 ≡ x
  next_is =
      let k : get_or l (params_at b) 0 - n ≡ length p.before = omega (arith, count_is) in
      rw k
      (entry l b s p.params (length p.before) (omega (arith, count l b s p.params, count_is, p.count))
      ∙ ap (λ (xs : List ℕ). get_or xs (length p.before) 0) p.split ∙ get_or-append_seam p.before x p.after 0)

-- ---- the caller's

module _ (l : List ℕ) (b : ℕ) (s : Form) where
  pub owns_is : HasOwns l b s → get_or l (base form_sizes 8 + b) 0 ≡ s.owns b
  owns_is p = p.cells.at 8 b p.known

  pub owns_counted : CanOwn l b s → Cells (set l (base form_sizes 8 + b) (get_or l (base form_sizes 8 + b) 0 + 1)) (with_owns s (put b (suc (s.owns b)) s.owns))
  owns_counted p =
      let n = suc (s.owns b) in
      rw (owns_is p.owns, add-one)
      (store form_sizes l (form_tables s) 8 p.owns.cells b n (put b n s.owns) (omega arith) p.owns.known (put_same b n s.owns) (λ d lt q. put_other b n s.owns d q))

-- ---- arguments: how many, and one more

module _ (l : List ℕ) (p i : ℕ) (s : Form) (h : HasArgs l p i s) where
  pub argument_count : get_or l (args_at p i) 0 ≡ length (s.args p i)
  argument_count =
      let r = p * limits.dests + i in
      let e = pair_at limits.dests s.args p i h.place in
      let row = row_among form_sizes l (form_tables s) 11 h.cells param_row (λ r. s.args (r / limits.dests) (r % limits.dests)) r refl (omega (arith, h.branch, h.place))
      (omega (arith, ap length e, h.few)) in
      row_count l (base form_sizes 11 + r * param_row) param_row (s.args (r / limits.dests) (r % limits.dests)) row ∙ ap length e

module _ (l : List ℕ) (p i : ℕ) (s : Form) (h : CanFeed l p i s) where
  abbrev args : ℕ → List ℕ
  args r = s.args (r / limits.dests) (r % limits.dests)

  own : args (p * limits.dests + i) ≡ s.args p i
  own = pair_at limits.dests s.args p i h.place

  room : length (args (p * limits.dests + i)) + 1 < param_row
  room = omega (arith, ap length own, h.row)

  pub argument_room : Pushable l (args_at p i)
  argument_room = rows_can_push form_sizes l (form_tables s) 11 h.cells param_row args (p * limits.dests + i) refl (omega (arith, h.branch, h.place)) room (omega (arith, room))

  pub argument_appended : (x : ℕ) (l₁ : List ℕ) → l₁ ≡ pushed l (args_at p i) x → Cells l₁ (with_args s (put₂ p i (s.args p i ∷ʳ x) s.args))
  argument_appended x l₁ e =
      let xs = s.args p i ∷ʳ x in
      rw e
      (rows_more form_sizes l (form_tables s) 11 h.cells param_row args (p * limits.dests + i) refl (omega (arith, h.branch, h.place)) room x
      (λ r. put₂ p i xs s.args (r / limits.dests) (r % limits.dests)) (omega arith)
      (pair_at limits.dests (put₂ p i xs s.args) p i h.place ∙ put₂_at p i xs s.args p i refl refl ∙ ap (λ (ys : List ℕ). ys ∷ʳ x) (sym own))
      (λ r n. put₂_other p i xs s.args (r / limits.dests) (r % limits.dests) (other_cell limits.dests p i r h.place n)))
