-- The copy back: the value is recorded in block after block. The order in which blocks are marked does not matter, so marking what is left gives what
-- marking all gives; and the way to where the walk stopped gets shorter.
-- Assumes nothing.
use Prim.Native.Nat.{ℕ, zero, suc, ◌+◌, ◌≤◌, ◌<◌}
use mathlib.Core.Path.{◌≡◌, refl, sym, ap, ◌∙◌, subst, fun_ext}
use mathlib.Core.Logic.{◌⊎◌, inl, inr}
use mathlib.Core.Bool.{Bool, true, false, cond, not}
use mathlib.Core.Option.{Option, none, some}
use mathlib.Core.List.{List, [], ◌∷◌}
use native.Mathlib.Omega.{arith}
use native.Mathlib.Nat.{le_trans, not-suc-le-zero, le_of_suc-le-suc}
use lib.Dec.{eqb}
use Rattle.std.proofs.lemmas.Bool.{eqb-true, eqb-false, not-true, not-false}
use lib.ListN.{length, get_or}
use Rattle.entity.specs.declared.Block.{Block}
use Rattle.std.specs.Prelude.{Option as OptionOf, Some, None}
use Rattle.entity.specs.Limits.{limits}
use Rattle.entity.specs.Options.{block_of}
use Rattle.definition.specs.Base.{put₂}
use Rattle.definition.specs.Form.{Graph, Form, with_entry}
use Rattle.definition.specs.Read.{mark, mark_one, single}
use Rattle.meaning.specs.Path.{In}
use Rattle.meaning.proofs.Maps.{same?, eqb_same, eqb_diff, put₂_at, put₂_other, here?, some_none}
use Rattle.meaning.proofs.Reading.{only_is}
use Rattle.layout.specs.Cells.{base}
use Rattle.layout.specs.Layout.{graph_sizes, pred_row}
use Rattle.layout.proofs.Rows.{row_count, row_entry}
use Rattle.graph.specs.Seen.{Seen, preds_start}
use Rattle.graph.proofs.Cells.{mark_is, single_open, single_many, single_one, sealed_cell, preds_row}
use Rattle.form.specs.Can.{Cells, HasDef, Recorded}
use Rattle.lookup.specs.Walk.{Chain, there, back, CanCopy}

-- ---- the order of marks

put₂_swap : (v b c x : ℕ) (E : ℕ → ℕ → Option ℕ) → put₂ v b (some x) (put₂ v c (some x) E) ≡ put₂ v c (some x) (put₂ v b (some x) E)
put₂_swap v b c x E = fun_ext (λ w. fun_ext (λ d. by w d (here? w v d b) (here? w v d c)))
  where
    by : (w d : ℕ) → ((w ≡ v) × (d ≡ b)) ⊎ (w ≡ v → d ≡ b → ⊥) → ((w ≡ v) × (d ≡ c)) ⊎ (w ≡ v → d ≡ c → ⊥)
        → put₂ v b (some x) (put₂ v c (some x) E) w d ≡ put₂ v c (some x) (put₂ v b (some x) E) w d
    by w d (inl p) (inl q) = put₂_at v b (some x) (put₂ v c (some x) E) w d p.0 p.1 ∙ sym (put₂_at v c (some x) (put₂ v b (some x) E) w d q.0 q.1)
    by w d (inl p) (inr n) =
        put₂_at v b (some x) (put₂ v c (some x) E) w d p.0 p.1 ∙ sym (put₂_other v c (some x) (put₂ v b (some x) E) w d n ∙ put₂_at v b (some x) E w d p.0 p.1)
    by w d (inr m) (inl q) =
        put₂_other v b (some x) (put₂ v c (some x) E) w d m ∙ put₂_at v c (some x) E w d q.0 q.1 ∙ sym (put₂_at v c (some x) (put₂ v b (some x) E) w d q.0 q.1)
    by w d (inr m) (inr n) =
        put₂_other v b (some x) (put₂ v c (some x) E) w d m ∙ put₂_other v c (some x) E w d n
        ∙ sym (put₂_other v c (some x) (put₂ v b (some x) E) w d n ∙ put₂_other v b (some x) E w d m)

mark_first : (v x b : ℕ) (bs : List ℕ) (s : Form) → mark v x bs (mark_one v x b s) ≡ mark v x (b ∷ bs) s
mark_first v x b [] s = refl
mark_first v x b (c ∷ bs) s =
    ap (mark_one v x c) (mark_first v x b bs s) ∙ ap (λ (E : ℕ → ℕ → Option ℕ). with_entry (mark v x bs s) E) (put₂_swap v c b x (mark v x bs s).entry)

-- ---- the way

-- the single predecessor, as the cells have it
unfoldable pub jump : List ℕ → ℕ → Option ℕ
jump gl b = cond (not (eqb (get_or gl (base graph_sizes 3 + b) 0) 0)) (cond (eqb (get_or gl (preds_start b) 0) 1) (some (get_or gl (preds_start b + 1 + 0) 0)) none) none

module _ {gl : List ℕ} {g : Graph} (h : Seen gl g) (b : ℕ) (lb : b < limits.blocks) where
  jump_is : jump gl b ≡ single g b
  unfolding jump
  jump_is = rw (mark_is (get_or gl (base graph_sizes 3 + b) 0) (g.sealed b) (sealed_cell h b lb), count, first) (by (g.sealed b) refl (same? (length (g.preds b)) 1))
    where
      count : get_or gl (preds_start b) 0 ≡ length (g.preds b)
      count = row_count gl (preds_start b) pred_row (g.preds b) (preds_row h b lb refl)

      first : get_or gl (preds_start b + 1 + 0) 0 ≡ get_or (g.preds b) 0 0
      first = row_entry gl (preds_start b) pred_row (g.preds b) (preds_row h b lb refl) 0 (omega arith)

      by : (z : Bool) → g.sealed b ≡ z → (length (g.preds b) ≡ 1) ⊎ (length (g.preds b) ≡ 1 → ⊥)
          → cond z (cond (eqb (length (g.preds b)) 1) (some (get_or (g.preds b) 0 0)) none) none ≡ single g b
      by false e n = single_open g b e
      by true e (inl n) = rw (ap (λ (k : ℕ). eqb k 1) n) (single_one g b (get_or (g.preds b) 0 0) e n refl)
      by true e (inr n) = rw (eqb_diff (length (g.preds b)) 1 n) (single_many g b n)

-- one step more than from there on
abbrev pub step_more : (ℕ → ℕ) → Option ℕ → ℕ
step_more f none = 0
step_more f (some p) = suc (f p)

-- how far `to` is from b, where it is at most k steps
abbrev pub far : List ℕ → ℕ → ℕ → ℕ → ℕ
far gl to zero b = 0
far gl to (suc k) b = cond (eqb b to) 0 (step_more (far gl to k) (jump gl b))

module _ {gl : List ℕ} {g : Graph} (h : Seen gl g) where
  -- a block with a single predecessor is one
  chain_low : (b p : ℕ) → single g b ≡ some p → b < limits.blocks
  chain_low b p e = le_trans (h.bounds.shut b (only_is (g.sealed b) (g.preds b) p e).0) h.bounds.few

  chain_jump : (b p : ℕ) → single g b ≡ some p → jump gl b ≡ some p
  chain_jump b p e = jump_is h b (chain_low b p e) ∙ e

  chain_far : (k : ℕ) {to b : ℕ} {bs : List ℕ} → Chain g to bs b → length bs ≤ k → far gl to k b ≡ length bs
  chain_far zero there le = refl
  chain_far zero (back n e r) le = absurd (not-suc-le-zero le)
  chain_far (suc k) {to} there le = rw (eqb_same to)
  chain_far (suc k) {to} (back {b} {p} n e r) le =
      rw (eqb_diff b to n, chain_jump b p e) (ap suc (chain_far k r (le_of_suc-le-suc le)))

-- one step of the way
record Step (g : Graph) (to b : ℕ) (bs : List ℕ) : Type 0 where
  pub p : ℕ
  pub rest : List ℕ
  pub one : single g b ≡ some p
  pub all : bs ≡ b ∷ rest
  pub chain : Chain g to rest p

step : {g : Graph} {to b : ℕ} {bs : List ℕ} → Chain g to bs b → (b ≡ to → ⊥) → Step g to b bs
step there n = absurd (n refl)
step (back {b} {p} {bs} n e r) _ = record { p = p; rest = bs; one = e; all = refl; chain = r }

ended : {g : Graph} {to b : ℕ} {bs : List ℕ} → Chain g to bs b → b ≡ to → bs ≡ []
ended there e = refl
ended (back n q r) e = absurd (n e)

-- ---- the loop

-- what it keeps: the cells show a form where the blocks on the rest of the way are still to be marked
pub record Copying (g : Graph) (to v x : ℕ) (s : Form) (bs : List ℕ) (l : List ℕ) (b : ℕ) : Type 0 where
  pub now : Form
  pub rest : List ℕ
  pub chain : Chain g to rest b
  pub few : length rest ≤ limits.blocks
  pub bare : (d : ℕ) → In d rest → now.own v d ≡ none
  pub cells : Cells l now
  pub same : mark v x rest now ≡ mark v x bs s

module _ (gl l₀ : List ℕ) (to v x b₀ : ℕ) where
  abbrev pub Copied : List ℕ → ℕ → Type 0
  Copied l b = (g : Graph) (s : Form) (bs : List ℕ) → CanCopy gl l₀ v b₀ to g s bs → Copying g to v x s bs l b

module _ {gl l₀ : List ℕ} {to v x b₀ : ℕ} where
  pub copy_start : Copied gl l₀ to v x b₀ l₀ b₀
  copy_start g s bs h = record { now = s; rest = bs; chain = h.chain; few = h.few; bare = h.bare; cells = h.cells; same = refl }

  -- the loop's test says whether it goes on
  module _ {l : List ℕ} {b : ℕ} (on : true ≡ not (eqb b to)) (C : Copied gl l₀ to v x b₀ l b) where
    n : b ≡ to → ⊥
    n = eqb-false b to (not-true (eqb b to) (sym on))

    module _ {g : Graph} {s : Form} {bs : List ℕ} (h : CanCopy gl l₀ v b₀ to g s bs) where
      abbrev k : Copying g to v x s bs l b
      k = C g s bs h

      u : Step g to b k.rest
      u = step k.chain n

      pub copy_low : b < limits.blocks
      copy_low = chain_low h.seen b u.p u.one

      pub copy_has : HasDef l v b k.now
      copy_has = record { cells = k.cells; var = h.var; known = copy_low }

      few : suc (length u.rest) ≤ limits.blocks
      few = rw u.all at k.few

      -- the single predecessor is there
      pub copy_some : {q : OptionOf Block} → q ≡ None → ((g : Graph) → Seen gl g → block_of q ≡ single g b) → ⊥
      copy_some e one = some_none (one g h.seen ∙ u.one) (ap block_of e)

      module _ {q : OptionOf Block} {p : Block} (there : q ≡ Some p) (one : (g : Graph) → Seen gl g → block_of q ≡ single g b) where
        next : u.p ≡ p.0
        next = cc (one g h.seen, u.one, ap block_of there)

        pub copy_falls : far gl to limits.blocks p.0 < far gl to limits.blocks b
        copy_falls = omega (
          arith,
          chain_far h.seen limits.blocks k.chain k.few,
          ap length u.all,
          subst (λ (i : ℕ). far gl to limits.blocks i ≡ length u.rest) next (chain_far h.seen limits.blocks u.chain (omega (arith, few))),
        )

        copies : {l₁ : List ℕ} → Recorded l l₁ v b x → Copying g to v x s bs l₁ p.0
        copies R =
            let bare : (d : ℕ) → In d (b ∷ u.rest) → k.now.own v d ≡ none = subst (λ (r : List ℕ). (d : ℕ) → In d r → k.now.own v d ≡ none) u.all k.bare in
            record {
              now = mark_one v x b k.now;
              rest = u.rest;
              chain = subst (λ (i : ℕ). Chain g to u.rest i) next u.chain;
              few = omega (arith, few);
              bare = λ d i. bare d (inr i);
              cells = R.entry k.now copy_has (bare b (inl refl));
              same = mark_first v x b u.rest k.now ∙ ap (λ (r : List ℕ). mark v x r k.now) (sym u.all) ∙ k.same;
            }

    pub copy_next : {q : OptionOf Block} {p : Block} → q ≡ Some p → ((g : Graph) → Seen gl g → block_of q ≡ single g b)
        → {l₁ : List ℕ} → Recorded l l₁ v b x → Copied gl l₀ to v x b₀ l₁ p.0
    copy_next e one R g s bs h = copies h e one R

  pub copy_end : {l : List ℕ} {b : ℕ} → false ≡ not (eqb b to) → Copied gl l₀ to v x b₀ l b
      → (g : Graph) (s : Form) (bs : List ℕ) → CanCopy gl l₀ v b₀ to g s bs → Cells l (mark v x bs s)
  copy_end {l} {b} off C g s bs h =
      let k = C g s bs h in
      let e = eqb-true b to (not-false (eqb b to) (sym off)) in
      subst (λ (t : Form). Cells l t) (ap (λ (r : List ℕ). mark v x r k.now) (sym (ended k.chain e)) ∙ k.same) k.cells
