-- Whether a value is recorded, by its cell. And in the descriptions that a session leaves a value is marked just
-- where the definition has it recorded, since a cell is its parts packed.
-- Assumes nothing.
use Prim.Native.Nat.{ℕ, ◌≤◌, ◌<◌}
use mathlib.Core.Path.{◌≡◌, refl, ap, ◌∙◌}
use mathlib.Core.Bool.{Bool, true, false}
use mathlib.Core.List.{List}
use native.Mathlib.Omega.{arith}
use borrow.Author.Tests.{lt-ltb, le-ltb}
use lib.Dec.{eqb, ltb}
use lib.ListN.{length, get_or, take, drop, length-drop}
use lib.Seq.{drop-cons, length-take-le, get_or-take, get_or-drop}
use Rattle.entity.specs.Described.{mark_of}
use Rattle.entity.proofs.Packing.{mark_packed}
use Rattle.definition.specs.Session.{Call, session, bit}
use Rattle.definition.specs.Tables.{sort_number}
use Rattle.definition.specs.Whole.{needs}
use Rattle.meaning.proofs.Theorems.{rooms_suffice}
use Rattle.meaning.proofs.Stored.{stored}
use Rattle.layout.specs.Cells.{base}
use Rattle.layout.specs.Layout.{described, form_sizes, form_tables}
use Rattle.layout.specs.Outcome.{Lent, first, shown}
use Rattle.layout.proofs.Cells.{holds_more, render_held}
use Rattle.layout.proofs.Columns.{column_at}
use Rattle.layout.proofs.Same.{sort_small, bit_small}
use Rattle.reader.specs.Marks.{recorded_of, next_of, IsRecorded}

-- ---- what the code says

module _ (t : List ℕ) (x : ℕ) where
  pub value_absent : length t ≤ x → IsRecorded t x 6 0
  value_absent le = record { code_is = rw (le-ltb x (length t) le); number_is = rw (le-ltb x (length t) le) }

  pub value_marked : {z : Bool} {n : ℕ} → x < length t → eqb (mark_of (get_or t x 0)) 1 ≡ z → n ≡ bit z → IsRecorded t x 0 n
  value_marked lt e n = record { code_is = rw (lt-ltb x (length t) lt); number_is = rw (lt-ltb x (length t) lt, e, n) }

  module _ (lt : x < length t) where
    pub marked_here : eqb (mark_of (get_or t x 0)) 1 ≡ true → next_of x (drop x t) ≡ x
    marked_here e = rw (drop-cons t x 0 lt, e)

-- ---- what a session leaves

-- the descriptions that a host lends: as many cells as there are values
abbrev pub descriptions : List ℕ → ℕ → List ℕ
descriptions form n = take n (drop (base form_sizes 3) form)

-- of a value that is there, the host learns what the definition has
pub recorded_shown : (cs : List Call) (left : Lent) (n : ℕ) → first (needs n) left ≡ shown (session cs) → (x : ℕ) → x < (session cs).form.next
    → recorded_of (descriptions left.form (session cs).form.next) x ≡ (0, bit ((session cs).form.recorded x))
recorded_shown cs left n e x lt =
    let s = (session cs).form in
    let q = s.info x in
    let t = descriptions left.form s.next in
    let h = holds_more form_sizes left.form (form_tables s) (render_held form_sizes _ (form_tables s) (ap (λ (u : Lent). u.form) e)) in
    let R = rooms_suffice cs in
    let long : length t ≡ s.next = length-take-le s.next (drop (base form_sizes 3) left.form)
    (omega (arith, length-drop (base form_sizes 3) left.form, h.long, R.values)) in
    let cell : get_or t x 0 ≡ described q (s.recorded x) =
    get_or-take s.next (drop (base form_sizes 3) left.form) x 0 lt ∙ get_or-drop (base form_sizes 3) left.form x 0
    ∙ column_at form_sizes left.form (form_tables s) 3 h s.next (λ y. described (s.info y) (s.recorded y)) refl x lt (omega (arith, R.values)) in
    let ty = ((stored cs).info x lt).1 in
    let mark : mark_of (get_or t x 0) ≡ bit (s.recorded x) =
    ap mark_of cell ∙ mark_packed q.type (sort_number q.sort) (bit (s.recorded x)) q.home (omega arith) (sort_small q.sort) (bit_small (s.recorded x)) in
    by (s.recorded x) t (lt-ltb x (length t) (omega (arith, long))) mark
  where
    by : (z : Bool) (t : List ℕ) → ltb x (length t) ≡ true → mark_of (get_or t x 0) ≡ bit z → recorded_of t x ≡ (0, bit z)
    by true t l m = rw (l, m)
    by false t l m = rw (l, m)
