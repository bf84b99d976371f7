-- Values in the cells: one made, one counted, one that becomes another name, one that is recorded for stack maps. Each is a store or a few into columns with a
-- cell for each value.
-- Assumes nothing.
use Prim.Native.Nat.{ℕ, suc, ◌+◌, ◌<◌}
use mathlib.Core.Path.{◌≡◌, refl, sym, ap, ◌∙◌}
use mathlib.Core.Bool.{Bool, true, false}
use mathlib.Core.List.{List}
use native.Mathlib.Omega.{arith}
use native.Mathlib.Numerals.{add-one}
use lib.ListN.{get_or, set}
use Rattle.entity.specs.declared.Described.{Described}
use Rattle.entity.specs.declared.Sort.{Sort}
use Rattle.entity.specs.declared.Sort.TheVariants.{Made, Param, Zero, Caller}
use Rattle.entity.specs.Described.{packed, number_of, Parts, with_mark}
use Rattle.entity.specs.Types.{type_count}
use Rattle.entity.proofs.Packing.{packed_type, marked_packed}
use Rattle.definition.specs.Base.{put}
use Rattle.definition.specs.Form.{Graph, Form, Info, Sort as SortDefined, with_makes, with_target}
use Rattle.definition.specs.Read.{make, record_binding}
use Rattle.definition.specs.Session.{bit}
use Rattle.definition.specs.Tables.{sort_number}
use Rattle.meaning.proofs.Maps.{put_same, put_other}
use Rattle.layout.specs.declared.Counts.{Counts}
use Rattle.layout.specs.Cells.{base, upto}
use Rattle.layout.specs.Counts.{more}
use Rattle.layout.specs.Layout.{described, form_sizes, form_tables, Shows}
use Rattle.layout.proofs.Cells.{store}
use Rattle.layout.proofs.Columns.{column_at, column_more, column_put}
use Rattle.form.specs.Sorts.{sort_of}
use Rattle.layout.proofs.Same.{sort_small, bit_small}
use Rattle.form.specs.Can.{Cells, CanMake, CanCount, HasValue}

-- the column of descriptions
abbrev describes : Form → ℕ → ℕ
describes s x = described (s.info x) (s.recorded x)

-- the code's numbers of the sorts are the definition's, and have room in a cell
pub sort_numbered : (k : Sort) → number_of k ≡ sort_number (sort_of k)
sort_numbered Made = refl
sort_numbered Param = refl
sort_numbered Zero = refl
sort_numbered Caller = refl

module _ (l : List ℕ) (c : Counts) (s : Form) (p : CanMake l c s) (k : SortDefined) (ty b : ℕ) where
  abbrev n : ℕ
  n = s.next

  abbrev s' : Form
  s' = make k ty b s

  abbrev new : Info
  new = record { sort = k; type = ty; home = b }

  stored : Cells (set (set (set l (base form_sizes 3 + n) (described new false)) (base form_sizes 2 + n) n) 0 (suc n)) s'
  stored =
      let l₃ = set l (base form_sizes 3 + n) (described new false) in
      let M₃ = set (form_tables s) 3 (upto (suc n) (describes s')) in
      let h₃ = column_more form_sizes l (form_tables s) 3 p.shows.cells n (describes s) refl (describes s') (described new false) (omega arith) p.room
      (ap (λ (i : Info). described i (s.recorded n)) (put_same n new s.info) ∙ ap (described new) p.unrecorded)
      (λ j lt. ap (λ (i : Info). described i (s.recorded j)) (put_other n new s.info j (omega arith))) in
      let h₂ = column_more form_sizes l₃ M₃ 2 h₃ n s.target refl s.target n (omega arith) p.room p.fresh (λ j lt. refl) in
      store form_sizes (set l₃ (base form_sizes 2 + n) n) (set M₃ 2 (upto (suc n) s.target)) 0 h₂ 0 (suc n) (λ i. suc n) (omega arith) (omega arith) refl (λ i lt d. absurd (d (omega arith)))

  pub value_made : (m w : ℕ) → m ≡ sort_number k → w ≡ packed ty m 0 b
      → Shows (set (set (set l (base form_sizes 3 + c.values) w) (base form_sizes 2 + c.values) c.values) 0 (c.values + 1)) (more c) s'
  value_made m w e f = rw (f, p.shows.next, e, add-one s.next) record { cells = stored; next = refl }

module _ (l : List ℕ) (s : Form) where
  pub made_is : Cells l s → get_or l (base form_sizes 1) 0 ≡ s.makes
  made_is h = h.at 1 0 (omega arith)

  pub made_counted : CanCount l s → Cells (set l (base form_sizes 1) (get_or l (base form_sizes 1) 0 + 1)) (with_makes s (suc s.makes))
  made_counted p =
      rw (made_is p.cells, add-one)
      (store form_sizes l (form_tables s) 1 p.cells 0 (suc s.makes) (λ i. suc s.makes) (omega arith) (omega arith) refl (λ i lt d. absurd (d (omega arith))))

  module _ (x : ℕ) (p : HasValue l x s) where
    described_cell : get_or l (base form_sizes 3 + x) 0 ≡ describes s x
    described_cell = column_at form_sizes l (form_tables s) 3 p.cells s.next (describes s) refl x p.there p.room

    pub type_is : (d : Described) → Parts (get_or l (base form_sizes 3 + x) 0) d → (s.info x).type < type_count → d.ty ≡ (s.info x).type
    type_is d P lt =
        let q = s.info x in
        packed_type d.ty (number_of d.sort) P.mark d.block.0 q.type (sort_number q.sort) (bit (s.recorded x)) q.home P.type (omega arith)
        (sym P.whole ∙ described_cell)

    pub alias_stored : (y : ℕ) → Cells (set l (base form_sizes 2 + x) y) (with_target s (put x y s.target))
    alias_stored y =
        column_put form_sizes l (form_tables s) 2 p.cells s.next s.target refl (put x y s.target) x y (omega arith) p.there p.room
        (put_same x y s.target) (put_other x y s.target)

    -- x is given to v
    module _ {m : Bool} (g : Graph) (v : ℕ) (e : m ≡ g.marks v) where
      pub unmarked_kept : m ≡ false → Cells l (record_binding g v x s)
      unmarked_kept f = rw (sym e ∙ f) p.cells

      pub marked_recorded : m ≡ true → (s.info x).type < type_count
          → Cells (set l (base form_sizes 3 + x) (with_mark (get_or l (base form_sizes 3 + x) 0))) (record_binding g v x s)
      marked_recorded f lt =
          let q = s.info x in
          let R = put x true s.recorded in
          rw (sym e ∙ f)
          (column_put form_sizes l (form_tables s) 3 p.cells s.next (describes s) refl (λ y. described (s.info y) (R y)) x
          (with_mark (get_or l (base form_sizes 3 + x) 0)) (omega arith) p.there p.room
          (ap (described q) (put_same x true s.recorded)
          ∙ sym (ap with_mark described_cell ∙ marked_packed q.type (sort_number q.sort) (bit (s.recorded x)) q.home (omega arith) (sort_small q.sort) (bit_small (s.recorded x))))
          (λ j n. ap (described (s.info j)) (put_other x true s.recorded j n)))
