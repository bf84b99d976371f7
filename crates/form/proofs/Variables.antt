-- Definitions and pending variables in the cells: a cell of a grid, and a row of a table.
-- Assumes nothing.
use Prim.Native.Nat.{ℕ, ◌+◌, ◌-◌, ◌*◌, ◌≤◌}
use mathlib.Core.Path.{◌≡◌, refl, sym, ap, ◌∙◌}
use mathlib.Core.Option.{Option, none, some}
use mathlib.Core.List.{List, [], ◌∷◌, ◌++◌, map-append}
use native.Mathlib.Omega.{arith}
use native.Mathlib.Numerals.{add-one}
use lib.ListN.{length, get_or, set, take, drop, length-map}
use Rattle.std.specs.Prelude.{Option as OptionOf, Some, None}
use Rattle.std.specs.Option.{SomeIff, IsSomeAnd, MatchOption}
use Rattle.entity.specs.declared.Value.{Value}
use Rattle.entity.specs.Limits.{limits, wait_room}
use Rattle.entity.specs.Options.{value_of}
use Rattle.definition.specs.Base.{put, put₂, or_else}
use Rattle.definition.specs.Form.{Form, def}
use Rattle.definition.specs.Read.{write, mark_one, wait, set_pending}
use Rattle.definition.specs.Tables.{plus_one}
use Rattle.meaning.proofs.Maps.{put_same, put_other, put₂_at, put₂_other}
use Rattle.layout.specs.Cells.{Holds, grid}
use Rattle.layout.specs.Layout.{firsts, form_sizes, form_tables, wait_row}
use Rattle.layout.specs.Starts.{def_at, pending_at}
use Rattle.layout.specs.Rows.{Row, Readable, Pushable, pushed, wipe}
use Rattle.layout.proofs.Rows.{row_count, row_entries, row_readable}
use Rattle.layout.proofs.Grids.{grid_at, grid_store, row_among, rows_changed}
use Rattle.layout.proofs.Removals.{row_wiped}
use Rattle.layout.proofs.Pushes.{rows_can_push, rows_more}
use Rattle.form.specs.Can.{Cells, HasDef, Recorded, CanWait, HasPending}

-- ---- definitions

-- what a number in a cell stands for: none where one less is none, else one less
read : {x : ℕ} (o : Option ℕ) → x ≡ plus_one o → (q : OptionOf ℕ) → SomeIff q (1 ≤ x) (x - 1)
    → (r : OptionOf Value) → MatchOption q (r ≡ None) (λ y. IsSomeAnd r (λ d. d.0 ≡ y)) → value_of r ≡ o
read none e None h r m = ap value_of m
read (some z) e None h r m = absurd (h (omega arith))
read none e (Some y) h r m = absurd (omega (arith, h.0))
read (some z) e (Some y) h (Some d) m = let w : d.0 ≡ z = omega (arith, h.1) in ap {B = Option ℕ} some w
read (some z) e (Some y) h None m = absurd m

module _ (l : List ℕ) (v b : ℕ) where
  pub definition_is : (s : Form) → HasDef l v b s → get_or l (def_at v b) 0 ≡ plus_one (def s v b)
  definition_is s p = p.cells.at 10 (v * limits.blocks + b) (omega (arith, p.var, p.known)) ∙ grid_at limits.blocks (λ w d. plus_one (def s w d)) v b p.known

  pub definition_read : (s : Form) → HasDef l v b s → (q : OptionOf ℕ) → SomeIff q (1 ≤ get_or l (def_at v b) 0) (get_or l (def_at v b) 0 - 1)
      → (r : OptionOf Value) → MatchOption q (r ≡ None) (λ y. IsSomeAnd r (λ d. d.0 ≡ y)) → value_of r ≡ def s v b
  definition_read s p = read (def s v b) (definition_is s p)

  module _ (x : ℕ) where
    definition_stored : (s s' : Form) → HasDef l v b s → def s' v b ≡ some x → ((w d : ℕ) → (w ≡ v → d ≡ b → ⊥) → def s' w d ≡ def s w d)
        → Holds form_sizes (set l (def_at v b) (x + 1)) (set (form_tables s) 10 (grid limits.blocks (λ w d. plus_one (def s' w d))))
    definition_stored s s' p on off =
        grid_store form_sizes l (form_tables s) 10 p.cells limits.blocks (λ w d. plus_one (def s w d)) (λ w d. plus_one (def s' w d)) v b (x + 1) refl (omega (arith, p.var, p.known)) p.known (omega arith)
        (ap plus_one on ∙ sym (add-one x)) (λ w d n. ap plus_one (off w d n))

    pub definition_recorded : Recorded l (set l (def_at v b) (x + 1)) v b x
    definition_recorded = record {
      own = λ s p. definition_stored s (write v b x s) p
          (ap (λ (o : Option ℕ). or_else o (s.entry v b)) (put₂_at v b (some x) s.own v b refl refl))
          (λ w d n. ap (λ (o : Option ℕ). or_else o (s.entry w d)) (put₂_other v b (some x) s.own w d n));
      entry = λ s p free. definition_stored s (mark_one v x b s) p
          (ap (λ (o : Option ℕ). or_else o (put₂ v b (some x) s.entry v b)) free ∙ put₂_at v b (some x) s.entry v b refl refl)
          (λ w d n. ap (or_else (s.own w d)) (put₂_other v b (some x) s.entry w d n));
    }

-- ---- pending variables

module _ (l : List ℕ) (b : ℕ) (s : Form) where
  abbrev pendings : ℕ → List ℕ
  pendings d = firsts (s.pending d)

  count : length (pendings b) ≡ length (s.pending b)
  count = length-map (s.pending b) (λ w. w.0)

  module _ (p : CanWait l b s) where
    pub pending_room : Pushable l (pending_at b)
    pending_room = rows_can_push form_sizes l (form_tables s) 9 p.cells wait_row pendings b refl (omega (arith, p.known)) (omega (arith, p.row, count)) (omega (arith, p.row, count))

    pub pending_pushed : (v x : ℕ) (l₁ : List ℕ) → l₁ ≡ pushed l (pending_at b) v → Cells l₁ (wait v b x s)
    pending_pushed v x l₁ e =
        let ws = s.pending b ++ (v, x) ∷ [] in
        rw e
        (rows_more form_sizes l (form_tables s) 9 p.cells wait_row pendings b refl (omega (arith, p.known)) (omega (arith, p.row, count)) v (λ d. firsts (put b ws s.pending d)) (omega arith)
        (ap firsts (put_same b ws s.pending) ∙ map-append (λ w. w.0) (s.pending b) ((v, x) ∷ [])) (λ d n. ap firsts (put_other b ws s.pending d n)))

  module _ (p : HasPending l b s) where
    the_row : Row l (pending_at b) wait_row (pendings b)
    the_row = row_among form_sizes l (form_tables s) 9 p.cells wait_row pendings b refl (omega (arith, p.known)) (omega (arith, p.few, count))

    pub pending_count : get_or l (pending_at b) 0 ≡ length (s.pending b)
    pending_count = row_count l (pending_at b) wait_row (pendings b) the_row ∙ count

    pub pending_few : get_or l (pending_at b) 0 ≤ wait_room limits
    pending_few = omega (arith, pending_count, p.few)

    -- n is how many they are
    pub pending_entries : (n : ℕ) → n ≡ length (s.pending b) → take n (drop (pending_at b + 1) l) ≡ firsts (s.pending b)
    pending_entries n e =
        ap (λ (k : ℕ). take k (drop (pending_at b + 1) l)) (e ∙ sym pending_count)
        ∙ row_entries l (pending_at b) wait_row (pendings b) the_row

    pub pending_readable : Readable l (pending_at b)
    pending_readable = row_readable l (pending_at b) wait_row (pendings b) the_row (omega (arith, p.few, count))

    pub pending_cleared : (l₁ : List ℕ) → l₁ ≡ wipe (pending_at b) (get_or l (pending_at b) 0) 0 l → Cells l₁ (set_pending b [] s)
    pending_cleared l₁ e =
        rw e
        (rows_changed form_sizes l (form_tables s) 9 p.cells wait_row pendings b refl (omega (arith, p.known)) (wipe (pending_at b) (get_or l (pending_at b) 0) 0 l)
        (λ d. firsts (put b [] s.pending d)) (omega arith) (omega arith) (rw put_same (row_wiped l (pending_at b) wait_row (pendings b) the_row)) (λ d n. ap firsts (put_other b [] s.pending d n)))
