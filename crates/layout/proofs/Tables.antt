-- A table after one of its lists is pushed or swap-removed, or one of its marks is set: only that row's or that mark's cells change.
-- Assumes nothing.
use Prim.Native.Nat.{ℕ, ◌+◌, ◌*◌, ◌≤◌, ◌<◌}
use mathlib.Core.Path.{◌≡◌, sym, ap, ◌∙◌, subst}
use mathlib.Core.Bool.{Bool, true}
use mathlib.Core.List.{List}
use native.Mathlib.Omega.{arith}
use lib.ListN.{length, get_or, set}
use Rattle.definition.specs.Base.{put, has, position, ◌∷ʳ◌}
use Rattle.definition.specs.Session.{bit, swap_out}
use Rattle.meaning.proofs.Lists.{Nodup}
use Rattle.meaning.proofs.Maps.{put_same, put_other}
use Rattle.layout.specs.Cells.{Table, blank, base, Holds, cell, rows}
use Rattle.layout.specs.Rows.{pushed, swapped}
use Rattle.layout.proofs.Cells.{Changed, store}
use Rattle.layout.proofs.Grids.{row_of, row_changed, row_among, rows_changed}
use Rattle.layout.proofs.Rows.{row_pushed}
use Rattle.layout.proofs.Searches.{position_below}
use Rattle.layout.proofs.Swaps.{swap_out_set, row_swapped}

module _ (sizes l : List ℕ) (M : List Table) (t : ℕ) (h : Holds sizes l M) (lt : t < length M) where
  pub mark_set : (f : ℕ → Bool) (b : ℕ) → get_or M t blank ≡ (λ j. bit (f j)) → b < get_or sizes t 0 → Holds sizes (set l (base sizes t + b) 1) (set M t (λ j. bit (put b true f j)))
  mark_set f b is lb = store sizes l M t h b 1 (λ j. bit (put b true f j)) lt lb (ap bit (put_same b true f)) (λ i li n. ap bit (put_other b true f i n) ∙ ap (λ (g : Table). g i) (sym is))

  -- a table that is one row
  pub list_pushed : (xs : List ℕ) (x : ℕ) → get_or M t blank ≡ cell xs → length xs + 1 < get_or sizes t 0 → Holds sizes (pushed l (base sizes t) x) (set M t (cell (xs ∷ʳ x)))
  list_pushed xs x is room =
      row_changed sizes l M t h (pushed l (base sizes t) x) (xs ∷ʳ x) lt (row_pushed l (base sizes t) (get_or sizes t 0) xs (row_of sizes l M t h xs is (omega arith)) x room)

  -- row c of a table of rows
  module _ (w : ℕ) (f : ℕ → List ℕ) (c : ℕ) (is : get_or M t blank ≡ rows w f) (whole : c * w + w ≤ get_or sizes t 0) where
    becomes : (l' xs : List ℕ) → 0 < w → Changed l l' (base sizes t + c * w) w (cell xs) → Holds sizes l' (set M t (rows w (put c xs f)))
    becomes l' xs pos ch =
        rows_changed sizes l M t h w f c is whole l' (put c xs f) pos lt
        (subst (λ (ys : List ℕ). Changed l l' (base sizes t + c * w) w (cell ys)) (sym (put_same c xs f)) ch) (λ b n. put_other c xs f b n)

    pub rows_pushed : (x : ℕ) → length (f c) + 1 < w → Holds sizes (pushed l (base sizes t + c * w) x) (set M t (rows w (put c (f c ∷ʳ x) f)))
    rows_pushed x room =
        becomes (pushed l (base sizes t + c * w) x) (f c ∷ʳ x) (omega arith)
        (row_pushed l (base sizes t + c * w) w (f c) (row_among sizes l M t h w f c is whole (omega arith)) x room)

    pub rows_swapped : (x : ℕ) → length (f c) < w → Nodup (f c) → has x (f c) ≡ true
        → Holds sizes (swapped l (base sizes t + c * w) (position 0 x (f c))) (set M t (rows w (put c (swap_out x (f c)) f)))
    rows_swapped x few nd there =
        let a = base sizes t + c * w in
        let k = position 0 x (f c) in
        becomes (swapped l a k) (swap_out x (f c)) (omega arith)
        (subst (λ (ys : List ℕ). Changed l (swapped l a k) a w (cell ys)) (swap_out_set x (f c) nd there)
        (row_swapped l a w (f c) (row_among sizes l M t h w f c is whole few) k (position_below x (f c) there)))
