-- What stands in which cell of a graph that is seen, and that its numbers are low: each table is where the layout puts it, and lists without
-- repeats of blocks that are there have no more entries than there are blocks.
-- Assumes nothing.
use Prim.Native.Nat.{ℕ, zero, suc, ◌+◌, ◌≤◌, ◌<◌}
use mathlib.Core.Path.{◌≡◌, refl, sym, subst}
use mathlib.Core.Logic.{inl, inr}
use mathlib.Core.Bool.{Bool, true, false, not}
use mathlib.Core.Option.{none, some}
use mathlib.Core.List.{List, [], ◌∷◌}
use native.Mathlib.Nat.{le_trans}
use native.Mathlib.Omega.{arith}
use lib.Dec.{eqb}
use lib.ListN.{length, get_or}
use Rattle.entity.specs.Limits.{limits, pred_room}
use Rattle.definition.specs.Base.{has}
use Rattle.definition.specs.Form.{Graph}
use Rattle.definition.specs.Read.{only, single}
use Rattle.definition.specs.Session.{bit}
use Rattle.meaning.specs.Path.{In}
use Rattle.meaning.proofs.Maps.{false_true}
use Rattle.meaning.proofs.Sums.{pigeon}
use Rattle.meaning.proofs.Lists.{has_in}
use Rattle.layout.specs.Cells.{base}
use Rattle.layout.specs.Layout.{type_row, dest_row, pred_row, graph_sizes, graph_tables}
use Rattle.layout.specs.Rows.{Row, Readable}
use Rattle.layout.proofs.Grids.{row_of, row_among}
use Rattle.layout.proofs.Rows.{row_readable}
use Rattle.graph.specs.Seen.{Seen, dests_start, preds_start}

-- entries below n, and zero past the end
pub entry_below : (n : ℕ) (xs : List ℕ) (i : ℕ) → 0 < n → ((x : ℕ) → In x xs → x < n) → get_or xs i 0 < n
entry_below n [] i pos h = pos
entry_below n (x ∷ xs) zero pos h = h x (inl refl)
entry_below n (x ∷ xs) (suc i) pos h = entry_below n xs i pos (λ y k. h y (inr k))

-- a mark is set where its cell is not 0
pub mark_is : (x : ℕ) (z : Bool) → x ≡ bit z → not (eqb x 0) ≡ z
mark_is x true e = rw e
mark_is x false e = rw e

-- the code's three ways to the single predecessor
module _ (g : Graph) (b : ℕ) where
  pub single_open : g.sealed b ≡ false → none ≡ single g b
  single_open e = rw e

  pub single_many : (length (g.preds b) ≡ 1 → ⊥) → none ≡ single g b
  single_many d = by (g.sealed b) (g.preds b) d
    where
      by : (z : Bool) (ps : List ℕ) → (length ps ≡ 1 → ⊥) → none ≡ only z ps
      by false ps d = refl
      by true [] d = refl
      by true (p ∷ []) d = absurd (d refl)
      by true (p ∷ q ∷ ps) d = refl

  pub single_one : (p : ℕ) → g.sealed b ≡ true → length (g.preds b) ≡ 1 → p ≡ get_or (g.preds b) 0 0 → some p ≡ single g b
  single_one p e n at = rw (e, at) (by (g.preds b) n)
    where
      by : (ps : List ℕ) → length ps ≡ 1 → some (get_or ps 0 0) ≡ only true ps
      by [] n = absurd (omega arith)
      by (p ∷ []) n = refl
      by (p ∷ q ∷ ps) n = absurd (omega arith)

module _ {cells : List ℕ} {g : Graph} (s : Seen cells g) where
  pub blocks_cell : get_or cells (base graph_sizes 0) 0 ≡ g.blocks
  blocks_cell = s.cells.at 0 0 (omega arith)

  pub branch_cell : (b : ℕ) → b < limits.blocks → get_or cells (base graph_sizes 2 + b) 0 ≡ bit (g.branch b)
  branch_cell b lb = s.cells.at 2 b lb

  pub sealed_cell : (b : ℕ) → b < limits.blocks → get_or cells (base graph_sizes 3 + b) 0 ≡ bit (g.sealed b)
  sealed_cell b lb = s.cells.at 3 b lb

  pub declared_cell : (p : ℕ) → p < limits.blocks → get_or cells (base graph_sizes 4 + p) 0 ≡ bit (g.declared p)
  declared_cell p lp = s.cells.at 4 p lp

  pub marks_cell : (v : ℕ) → v < limits.variables → get_or cells (base graph_sizes 5 + v) 0 ≡ bit (g.marks v)
  marks_cell v lv = s.cells.at 5 v lv

  pub types_row : Row cells (base graph_sizes 1) type_row g.types
  types_row = row_of graph_sizes cells (graph_tables g) 1 s.cells g.types refl (omega (arith, s.bounds.vars))

  pub preds_few : (b : ℕ) → length (g.preds b) ≤ pred_room limits
  preds_few b = le_trans (pigeon some g.blocks (g.preds b) (s.sound.nodup b) (λ p i. (p, s.sound.range b p i, refl))) s.bounds.few

  -- before a branch is declared to the block
  pub preds_room : (b p : ℕ) → p < limits.blocks → has p (g.preds b) ≡ false → length (g.preds b) < pred_room limits
  preds_room b p lp new = pigeon some limits.blocks (p ∷ g.preds b) ((λ i. false_true new (has_in p (g.preds b) i)), s.sound.nodup b) by
    where
      by : (q : ℕ) → In q (p ∷ g.preds b) → (w : ℕ) × (w < limits.blocks) × (some w ≡ some q)
      by q (inl e) = (q, subst (λ (k : ℕ). k < limits.blocks) (sym e) lp, refl)
      by q (inr i) = (q, le_trans (s.sound.range b q i) s.bounds.few, refl)

  pub pred_low : (b i : ℕ) → get_or (g.preds b) i 0 < limits.blocks
  pred_low b i = entry_below limits.blocks (g.preds b) i (omega arith) (λ p k. le_trans (s.sound.range b p k) s.bounds.few)

  pub dest_low : (p i : ℕ) → get_or (g.dests p) i 0 < limits.blocks
  dest_low p i = entry_below limits.blocks (g.dests p) i (omega arith) (λ b k. le_trans (s.bounds.aims p b k) s.bounds.few)

  module _ {a : ℕ} (p : ℕ) (lp : p < limits.blocks) (e : a ≡ dests_start p) where
    pub dests_row : Row cells a dest_row (g.dests p)
    dests_row =
        subst (λ (k : ℕ). Row cells k dest_row (g.dests p)) (sym e)
        (row_among graph_sizes cells (graph_tables g) 6 s.cells dest_row g.dests p refl (omega arith) (omega (arith, s.bounds.dests p)))

    pub dests_readable : Readable cells a
    dests_readable = row_readable cells a dest_row (g.dests p) dests_row (omega (arith, s.bounds.dests p))

  module _ {a : ℕ} (b : ℕ) (lb : b < limits.blocks) (e : a ≡ preds_start b) where
    pub preds_row : Row cells a pred_row (g.preds b)
    preds_row =
        subst (λ (k : ℕ). Row cells k pred_row (g.preds b)) (sym e)
        (row_among graph_sizes cells (graph_tables g) 7 s.cells pred_row g.preds b refl (omega arith) (omega (arith, preds_few b)))

    pub preds_readable : Readable cells a
    preds_readable = row_readable cells a pred_row (g.preds b) preds_row (omega (arith, preds_few b))
