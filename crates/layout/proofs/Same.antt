-- Renders that are the same come from states with the same tables: each cell says the same, a value's cell fixes what it is, since its type is one, and
-- a row's cells fix its list, since no list is longer than its room.
-- Assumes nothing.
use Prim.Native.Nat.{ℕ, suc, ◌+◌, ◌*◌, ◌/◌, ◌%◌, ◌<◌}
use mathlib.Core.Path.{◌≡◌, refl, sym, ap, ◌∙◌}
use mathlib.Core.Bool.{Bool, true, false}
use mathlib.Core.Option.{Option, none, some}
use mathlib.Core.List.{List, [], ◌∷◌}
use native.Mathlib.Omega.{arith}
use lib.Arith.{digits_lt}
use lib.ListN.{length, get_or, length-map}
use lib.Seq.{ext_get_or}
use Rattle.entity.specs.Limits.{limits, value_room, row_cells}
use Rattle.entity.specs.Types.{type_count}
use Rattle.entity.specs.Described.{type_room, sort_room, mark_room}
use Rattle.entity.proofs.Packing.{packed_type, packed_sort, packed_mark, packed_block}
use Rattle.definition.specs.Form.{Graph, Form, Info, Sort, made, param, nought, caller, def}
use Rattle.definition.specs.Session.{Call, session, bit}
use Rattle.meaning.specs.Rooms.{Rooms}
use Rattle.meaning.specs.Stored.{Stored}
use Rattle.meaning.proofs.Rooms.{rooms}
use Rattle.meaning.proofs.Stored.{stored}
use Rattle.layout.specs.Cells.{Table, blank, cell, rows, upto}
use Rattle.definition.specs.Tables.{sort_number, plus_one}
use Rattle.layout.specs.Layout.{described, firsts, seconds, dest_row, pred_row, zero_row, param_row, wait_row, graph_sizes, graph_tables, form_sizes, form_tables, render_graph, render_form}
use Rattle.layout.specs.Same.{SameGraph, SameForm}
use Rattle.layout.proofs.Cells.{render_same}
use Rattle.layout.proofs.Grids.{pair_at, grid_at}
use Rattle.layout.proofs.Values.{upto_in}

-- ---- what a number in a cell stands for

bit_same : (a b : Bool) → bit a ≡ bit b → a ≡ b
bit_same true true e = refl
bit_same true false e = absurd (omega arith)
bit_same false true e = absurd (omega arith)
bit_same false false e = refl

sort_same : (a b : Sort) → sort_number a ≡ sort_number b → a ≡ b
sort_same made made e = refl
sort_same made param e = absurd (omega arith)
sort_same made nought e = absurd (omega arith)
sort_same made caller e = absurd (omega arith)
sort_same param made e = absurd (omega arith)
sort_same param param e = refl
sort_same param nought e = absurd (omega arith)
sort_same param caller e = absurd (omega arith)
sort_same nought made e = absurd (omega arith)
sort_same nought param e = absurd (omega arith)
sort_same nought nought e = refl
sort_same nought caller e = absurd (omega arith)
sort_same caller made e = absurd (omega arith)
sort_same caller param e = absurd (omega arith)
sort_same caller nought e = absurd (omega arith)
sort_same caller caller e = refl

option_same : (a b : Option ℕ) → plus_one a ≡ plus_one b → a ≡ b
option_same none none e = refl
option_same none (some y) e = absurd (omega arith)
option_same (some x) none e = absurd (omega arith)
option_same (some x) (some y) e = let q : x ≡ y = omega arith in ap {B = Option ℕ} some q

pairs_same : (xs ys : List (ℕ × ℕ)) → firsts xs ≡ firsts ys → seconds xs ≡ seconds ys → xs ≡ ys
pairs_same [] [] e f = refl
pairs_same [] (y ∷ ys) e f = absurd (let z : 0 ≡ suc (length (firsts ys)) = ap length e in omega arith)
pairs_same (x ∷ xs) [] e f = absurd (let z : suc (length (firsts xs)) ≡ 0 = ap length e in omega arith)
pairs_same (x ∷ xs) (y ∷ ys) e f =
    let a : x.0 ≡ y.0 = cc in
    let b : x.1 ≡ y.1 = cc in
    let r : xs ≡ ys = pairs_same xs ys (cc) (cc) in
    let p : x ≡ y = ap {B = ℕ × ℕ} (λ (k : ℕ). (k, x.1)) a ∙ ap {B = ℕ × ℕ} (λ (k : ℕ). (y.0, k)) b in
    rw (r, p)

pub sort_small : (k : Sort) → sort_number k < sort_room
sort_small made = omega arith
sort_small param = omega arith
sort_small nought = omega arith
sort_small caller = omega arith

info_same : (a b : Info) → a.sort ≡ b.sort → a.type ≡ b.type → a.home ≡ b.home → a ≡ b
info_same a b e f h =
    ap (λ (k : Sort). record { sort = k; type = a.type; home = a.home }) e ∙ ap (λ (k : ℕ). record { sort = b.sort; type = k; home = a.home }) f
    ∙ ap (λ (k : ℕ). record { sort = b.sort; type = b.type; home = k }) h

pub bit_small : (m : Bool) → bit m < mark_room
bit_small true = omega arith
bit_small false = omega arith

module _ (a b : Info) (la : a.type < type_count) (lb : b.type < type_count) (m n : Bool) (e : described a m ≡ described b n) where
  abbrev j : ℕ
  j = sort_number a.sort

  abbrev k : ℕ
  k = sort_number b.sort

  t : a.type < type_room
  t = omega arith

  u : b.type < type_room
  u = omega arith

  described_same : a ≡ b
  described_same =
      info_same a b
      (sort_same a.sort b.sort (packed_sort a.type j (bit m) a.home b.type k (bit n) b.home t u e (sort_small a.sort) (sort_small b.sort)))
      (packed_type a.type j (bit m) a.home b.type k (bit n) b.home t u e)
      (packed_block a.type j (bit m) a.home b.type k (bit n) b.home t u e (sort_small a.sort) (sort_small b.sort) (bit_small m) (bit_small n))

  marks_same : m ≡ n
  marks_same =
      bit_same m n (packed_mark a.type j (bit m) a.home b.type k (bit n) b.home t u e (sort_small a.sort) (sort_small b.sort) (bit_small m) (bit_small n))

abbrev first : ℕ × ℕ → ℕ
first w = w.0

abbrev second : ℕ × ℕ → ℕ
second w = w.1

-- the arguments by row
abbrev arg_rows : Form → ℕ → List ℕ
arg_rows s r = s.args (r / limits.dests) (r % limits.dests)

-- ---- rows

cell_same : (w : ℕ) (xs ys : List ℕ) → length xs < w → length ys < w → ((i : ℕ) → i < w → cell xs i ≡ cell ys i) → xs ≡ ys
cell_same w xs ys lx ly e = ext_get_or 0 xs ys (e 0 (omega arith)) (λ i lt. e (suc i) (omega arith))

rows_same : (n w : ℕ) (f f' : ℕ → List ℕ) (b : ℕ) → b < n → length (f b) < w → length (f' b) < w → ((j : ℕ) → j < n * w → rows w f j ≡ rows w f' j) → f b ≡ f' b
rows_same n w f f' b lb l l' e =
    cell_same w (f b) (f' b) l l'
    (λ i lt. sym (grid_at w (λ r. cell (f r)) b i lt) ∙ e (b * w + i) (digits_lt lb lt) ∙ grid_at w (λ r. cell (f' r)) b i lt)

-- ---- states

module _ (g g' : Graph) (s s' : Form) (R : Rooms g s) (R' : Rooms g' s') where
  pub same_graph : render_graph g ≡ render_graph g' → SameGraph g g'
  same_graph e =
      let at = render_same graph_sizes (graph_tables g) (graph_tables g') e in
      record {
        blocks = at 0 0 (omega arith);
        types = cell_same (row_cells limits.variables) g.types g'.types (omega (arith, R.variables)) (omega (arith, R'.variables)) (at 1);
        branch = λ b lt. bit_same (g.branch b) (g'.branch b) (at 2 b lt);
        sealed = λ b lt. bit_same (g.sealed b) (g'.sealed b) (at 3 b lt);
        declared = λ b lt. bit_same (g.declared b) (g'.declared b) (at 4 b lt);
        marks = λ v lt. bit_same (g.marks v) (g'.marks v) (at 5 v lt);
        dests = λ b lt. rows_same limits.blocks dest_row g.dests g'.dests b lt (omega (arith, R.dests b)) (omega (arith, R'.dests b)) (at 6);
        preds = λ b lt. rows_same limits.blocks pred_row g.preds g'.preds b lt (omega (arith, R.preds b)) (omega (arith, R'.preds b)) (at 7);
      }

  pub same_form : Stored g s → Stored g' s' → render_form s ≡ render_form s' → SameForm s s'
  same_form S S' e =
      record {
        next = next;
        makes = at 1 0 (omega arith);
        target = λ x lt. column s.target s'.target x lt (at 2);
        info = λ x lt. described_same (s.info x) (s'.info x) (S.info x lt).1 (typed x lt) (s.recorded x) (s'.recorded x) (cells x lt);
        recorded = λ x lt. marks_same (s.info x) (s'.info x) (S.info x lt).1 (typed x lt) (s.recorded x) (s'.recorded x) (cells x lt);
        placed = cell_same pred_row s.placed s'.placed (omega (arith, R.placed)) (omega (arith, R'.placed)) (at 4);
        zeros = pairs_same s.zeros s'.zeros
            (cell_same zero_row (firsts s.zeros) (firsts s'.zeros) (omega (arith, R.zeros, length-map s.zeros first)) (omega (arith, R'.zeros, length-map s'.zeros first)) (at 5))
            (cell_same zero_row (seconds s.zeros) (seconds s'.zeros) (omega (arith, R.zeros, length-map s.zeros second)) (omega (arith, R'.zeros, length-map s'.zeros second)) (at 6));
        params = λ b lt. rows_same limits.blocks param_row s.params s'.params b lt (omega (arith, R.params b)) (omega (arith, R'.params b)) (at 7);
        owns = at 8;
        pending = λ b lt. rows_same limits.blocks wait_row (λ c. firsts (s.pending c)) (λ c. firsts (s'.pending c)) b lt
            (omega (arith, R.waits b, length-map (s.pending b) first)) (omega (arith, R'.waits b, length-map (s'.pending b) first)) (at 9);
        defs = λ v b lv lb. option_same (def s v b) (def s' v b)
            (sym (grid_at limits.blocks (λ v b. plus_one (def s v b)) v b lb) ∙ at 10 (v * limits.blocks + b) (digits_lt lv lb) ∙ grid_at limits.blocks (λ v b. plus_one (def s' v b)) v b lb);
        args = λ p i lp li.
            sym (pair_at limits.dests s.args p i li)
            ∙ rows_same (limits.blocks * limits.dests) param_row (arg_rows s) (arg_rows s') (p * limits.dests + i) (digits_lt lp li)
            (omega (arith, R.args ((p * limits.dests + i) / limits.dests) ((p * limits.dests + i) % limits.dests))) (omega (arith, R'.args ((p * limits.dests + i) / limits.dests) ((p * limits.dests + i) % limits.dests))) (at 11)
            ∙ pair_at limits.dests s'.args p i li;
      }
    where
      at : (t j : ℕ) → j < get_or form_sizes t 0 → get_or (form_tables s) t blank j ≡ get_or (form_tables s') t blank j
      at = render_same form_sizes (form_tables s) (form_tables s') e

      next : s.next ≡ s'.next
      next = at 0 0 (omega arith)

      column : (f f' : Table) (x : ℕ) → x < s.next → ((j : ℕ) → j < value_room limits → upto s.next f j ≡ upto s'.next f' j) → f x ≡ f' x
      column f f' x lt e = sym (upto_in s.next f x lt) ∙ e x (omega (arith, R.values)) ∙ upto_in s'.next f' x (omega (arith, next))

      typed : (x : ℕ) → x < s.next → (s'.info x).type < type_count
      typed x lt = (S'.info x (omega (arith, next))).1

      cells : (x : ℕ) → x < s.next → described (s.info x) (s.recorded x) ≡ described (s'.info x) (s'.recorded x)
      cells x lt = column (λ y. described (s.info y) (s.recorded y)) (λ y. described (s'.info y) (s'.recorded y)) x lt (at 3)

-- two sessions that leave the same cells have the same tables
pub same_sessions : (cs ds : List Call) → render_graph (session cs).graph ≡ render_graph (session ds).graph → render_form (session cs).form ≡ render_form (session ds).form
    → SameGraph (session cs).graph (session ds).graph × SameForm (session cs).form (session ds).form
same_sessions cs ds e f = (same_graph _ _ _ _ (rooms cs) (rooms ds) e, same_form _ _ _ _ (rooms cs) (rooms ds) (stored cs) (stored ds) f)
