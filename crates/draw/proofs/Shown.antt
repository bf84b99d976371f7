-- Of tables that a session left the picture is that of its state: each row's cells are the count and the entries of its list, and no list is longer than
-- its room. They can be drawn, since every number stored names something that is there.
-- Assumes nothing.
use Prim.Native.Nat.{ℕ, ◌+◌, ◌*◌, ◌/◌, ◌%◌, ◌≤◌, ◌<◌}
use mathlib.Core.Path.{◌≡◌, refl, ap, ◌∙◌, subst}
use mathlib.Core.Logic.{inl, inr}
use mathlib.Core.Bool.{Bool, true, false, not, cond}
use mathlib.Core.List.{List, [], ◌∷◌, ◌++◌}
use native.Mathlib.Omega.{arith}
use lib.Arith.{digits_lt}
use lib.ListN.{length, get_or, drop}
use Rattle.entity.specs.Limits.{limits}
use Rattle.definition.specs.Base.{◌=?◌, up_from}
use Rattle.definition.specs.Form.{Graph, Form}
use Rattle.definition.specs.Session.{Call, session, bit}
use Rattle.definition.specs.Whole.{needs}
use Rattle.meaning.specs.Path.{In}
use Rattle.meaning.specs.Rooms.{Rooms}
use Rattle.meaning.specs.Stored.{Stored}
use Rattle.meaning.proofs.Rest.{up_below}
use Rattle.meaning.proofs.Theorems.{rooms_suffice, numbers_named}
use Rattle.layout.specs.Cells.{Holds}
use Rattle.layout.specs.Layout.{dest_row, param_row, graph_sizes, graph_tables, form_sizes, form_tables}
use Rattle.layout.specs.Outcome.{Lent, first, shown}
use Rattle.layout.specs.Rows.{Row, entries}
use Rattle.layout.proofs.Cells.{holds_more, render_held}
use Rattle.layout.proofs.Grids.{pair_at, row_among}
use Rattle.layout.proofs.Rows.{row_count, row_entries}
use Rattle.lines.specs.Text.{Picture, each, block_line, edge_line, edge_lines, text}
use Rattle.drawable.specs.Fits.{mark_table, dest_table, param_table, arg_table, params_at, dests_at, args_at, blocks, values, branches, drawable}
use Rattle.draw.specs.Seen.{seen, state_picture}
use Rattle.draw.specs.Draws.{length_with, buffer_with, Draws}
use Rattle.drawable.specs.Drawable.{Long, RowFits, Drawable}
use Rattle.drawable.proofs.Checks.{drawable_decided}
use Rattle.draw.proofs.Codes.{code_0, code_15}

-- ---- pictures that show the same have the same text

each_same : (f g : ℕ → List ℕ) (l : List ℕ) → ((x : ℕ) → In x l → f x ≡ g x) → each f l ≡ each g l
unfolding each
each_same f g [] h = refl
each_same f g (x ∷ l) h = ap (λ (s : List ℕ). s ++ each f l) (h x (inl refl)) ∙ ap (λ (s : List ℕ). g x ++ s) (each_same f g l (λ y i. h y (inr i)))

each_up_same : (f g : ℕ → List ℕ) (n : ℕ) → ((x : ℕ) → x < n → f x ≡ g x) → each f (up_from 0 n) ≡ each g (up_from 0 n)
each_up_same f g n h = each_same f g (up_from 0 n) (λ x i. h x (omega (arith, up_below n 0 x i)))

-- p shows of each block what q does
record Same (p q : Picture) : Type 0 where
  blocks : p.blocks ≡ q.blocks
  params : (b : ℕ) → b < q.blocks → p.params b ≡ q.params b
  dests : (b : ℕ) → b < q.blocks → p.dests b ≡ q.dests b
  args : (b i : ℕ) → b < q.blocks → i < length (q.dests b) → p.args b i ≡ q.args b i

module _ (p q : Picture) (h : Same p q) where
  same_edges : (b : ℕ) → b < q.blocks → edge_lines p b ≡ edge_lines q b
  same_edges b lt =
      ap (λ (ds : List ℕ). each (λ i. edge_line b (get_or ds i 0) (p.args b i)) (up_from 0 (length ds))) (h.dests b lt)
      ∙ each_up_same _ _ (length (q.dests b)) (λ i li. ap (edge_line b (get_or (q.dests b) i 0)) (h.args b i lt li))

  same_text : text p ≡ text q
  same_text =
      rw (
        h.blocks,
        each_up_same (λ b. block_line b (p.params b)) (λ b. block_line b (q.params b)) q.blocks (λ b lt. ap (block_line b) (h.params b lt)),
        each_up_same (edge_lines p) (edge_lines q) q.blocks same_edges,
      )

-- ---- one row

-- a row that holds a list, few enough and each below n, fits
module _ (l : List ℕ) (a w : ℕ) (xs : List ℕ) (r : Row l a w xs) where
  row_fit : (room n : ℕ) → length xs ≤ room → ((x : ℕ) → In x xs → x < n) → RowFits room n l a
  row_fit room n few low = record {
    few = omega (arith, row_count l a w xs r);
    below = λ x i. low x (subst (In x) (row_entries l a w xs r) i);
  }

-- a mark is set or 0
marked : (z : Bool) → not (bit z =? 0) ≡ z
marked true = refl
marked false = refl

-- ---- the tables of a state

module _ (g : Graph) (s : Form) (R : Rooms g s) (S : Stored g s) (graph form : List ℕ)
    (hg : Holds graph_sizes graph (graph_tables g)) (hf : Holds form_sizes form (form_tables s)) where
  blocks_are : blocks graph ≡ g.blocks
  blocks_are = hg.at 0 0 (omega arith)

  values_are : values form ≡ s.next
  values_are = hf.at 0 0 (omega arith)

  module _ (b : ℕ) (lt : b < limits.blocks) where
    params_row : Row form (params_at b) param_row (s.params b)
    params_row = row_among form_sizes form (form_tables s) param_table hf param_row s.params b refl (omega arith) (omega (arith, R.params b))

    dests_row : Row graph (dests_at b) dest_row (g.dests b)
    dests_row = row_among graph_sizes graph (graph_tables g) dest_table hg dest_row g.dests b refl (omega arith) (omega (arith, R.dests b))

    args_row : (i : ℕ) → i < limits.dests → Row form (args_at b i) param_row (s.args b i)
    args_row i li =
        let c = b * limits.dests + i in
        let low = digits_lt lt li in
        subst (Row form (args_at b i) param_row) (pair_at limits.dests s.args b i li)
        (row_among form_sizes form (form_tables s) arg_table hf param_row (λ r. s.args (r / limits.dests) (r % limits.dests)) c refl (omega arith)
        (omega (arith, R.args (c / limits.dests) (c % limits.dests))))

    branch_is : branches graph b ≡ g.branch b
    branch_is = ap (λ (x : ℕ). not (x =? 0)) (hg.at mark_table b lt) ∙ marked (g.branch b)

  low : {b : ℕ} → b < blocks graph → b < limits.blocks
  low lt = omega (arith, blocks_are, R.blocks)

  tables_drawable : Drawable graph form
  tables_drawable = record {
    few_blocks = omega (arith, blocks_are, R.blocks);
    few_values = omega (arith, values_are, R.values);
    params = λ b lt. row_fit form _ _ _ (params_row b (low lt)) _ _ (R.params b) (λ x i. omega (arith, values_are, (S.params b x i).1));
    branch = λ b lt m. record {
      dests = row_fit graph _ _ _ (dests_row b (low lt)) _ _ (R.dests b) (λ x i. omega (arith, blocks_are, (S.dests b x i).1));
      args = λ i li.
          row_fit form _ _ _ (args_row b (low lt) i (omega (arith, row_count graph _ _ _ (dests_row b (low lt)), R.dests b))) _ _ (R.args b i)
          (λ x k. omega (arith, values_are, (S.args b i x k).2));
    };
  }

  tables_picture : Same (seen graph form) (state_picture g s)
  tables_picture = record {
    blocks = blocks_are;
    params = λ b lt. row_entries form _ _ _ (params_row b (omega (arith, R.blocks)));
    dests = λ b lt. let low : b < limits.blocks = omega (arith, R.blocks) in
        ap (λ (z : Bool). cond z (entries graph (dests_at b)) []) (branch_is b low)
        ∙ ap (λ (l : List ℕ). cond (g.branch b) l []) (row_entries graph _ _ _ (dests_row b low));
    args = λ b i lt li. row_entries form _ _ _ (args_row b (omega (arith, R.blocks)) i (few (g.branch b) b i li));
  }
    where
      few : (z : Bool) (b i : ℕ) → i < length (cond z (g.dests b) []) → i < limits.dests
      few true b i li = omega (arith, R.dests b)
      few false b i li = absurd (omega arith)

-- ---- a session

-- What a host has after a session, whose needed cells show it: `cells_show` in crates/session has that of every accepted one.
module _ (cs : List Call) (left : Lent) (k : ℕ) (e : first (needs k) left ≡ shown (session cs)) where
  -- the text of the session's state
  abbrev pub picture_text : List ℕ
  picture_text = text (state_picture (session cs).graph (session cs).form)

  graph_held : Holds graph_sizes left.graph (graph_tables (session cs).graph)
  graph_held = holds_more graph_sizes left.graph _ (render_held graph_sizes _ _ (ap (λ (t : Lent). t.graph) e))

  form_held : Holds form_sizes left.form (form_tables (session cs).form)
  form_held = holds_more form_sizes left.form _ (render_held form_sizes _ _ (ap (λ (t : Lent). t.form) e))

  long : Long left.graph left.form
  long = record { graph_long = graph_held.long; form_long = form_held.long }

  pub session_drawable : drawable left.graph left.form ≡ true
  session_drawable =
      (drawable_decided _ _).complete (tables_drawable _ _ (rooms_suffice cs) (numbers_named cs) left.graph left.form graph_held form_held)

  pub session_text : text (seen left.graph left.form) ≡ picture_text
  session_text = same_text _ _ (tables_picture _ _ (rooms_suffice cs) (numbers_named cs) left.graph left.form graph_held form_held)

  module _ {before after : List ℕ} {code n : ℕ} (h : Draws left.graph left.form before after code n) where
    -- a buffer that is long enough holds the text
    pub session_drawn : length picture_text ≤ length before → (code ≡ 0) × (n ≡ length picture_text) × (after ≡ picture_text ++ drop (length picture_text) before)
    session_drawn l =
        let z = h.code_is ∙ code_0 _ _ before long session_drawable (omega (arith, ap length session_text)) in (
          z,
          h.length_is ∙ ap (length_with left.graph left.form before) z ∙ ap length session_text,
          h.buffer_is ∙ ap (buffer_with left.graph left.form before) z ∙ ap (λ (t : List ℕ). t ++ drop (length t) before) session_text,
        )

    -- any other gets code 15
    pub session_no_room : length before < length picture_text → code ≡ 15
    session_no_room l = h.code_is ∙ code_15 _ _ before long session_drawable (omega (arith, ap length session_text))
