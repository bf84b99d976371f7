-- Tables of rows: a row of the table is a row of its cells, and when that row's cells change the table has one row changed.
-- Assumes nothing.
use Prim.Native.Nat.{ℕ, ◌+◌, ◌-◌, ◌*◌, ◌/◌, ◌%◌, ◌≤◌, ◌<◌}
use mathlib.Core.Path.{◌≡◌, sym, ap, ◌∙◌, subst}
use mathlib.Core.Logic.{◌≢◌, ◌⊎◌, inl, inr}
use mathlib.Core.List.{List}
use native.Mathlib.Omega.{arith}
use native.Mathlib.Nat.{div-add-mod', mod-lt}
use lib.Arith.{digits_div, digits_mod}
use lib.ListN.{length, get_or, set}
use Rattle.layout.specs.Cells.{Table, blank, base, Holds, grid, cell, rows}
use Rattle.layout.specs.Rows.{Row}
use Rattle.layout.proofs.Cells.{Changed, inside, holds_changed, store}

-- row r, place i, in one number and back: so the arguments of branch r at its destination i
pub pair_at {ℓ} : {A : Type ℓ} (w : ℕ) (f : ℕ → ℕ → A) (r i : ℕ) → i < w → f ((r * w + i) / w) ((r * w + i) % w) ≡ f r i
pair_at w f r i lt = ap (λ (q : ℕ). f q ((r * w + i) % w)) (digits_div r lt) ∙ ap (f r) (digits_mod r lt)

pub grid_at : (w : ℕ) (f : ℕ → Table) (r i : ℕ) → i < w → grid w f (r * w + i) ≡ f r i
grid_at w f r i lt = pair_at w f r i lt

-- a cell outside row c is in another row
elsewhere : (w c j : ℕ) → 0 < w → (j < c * w) ⊎ (c * w + w ≤ j) → j / w ≢ c
elsewhere w c j pos o e = by o
  where
    at : c * w + j % w ≡ j
    at = ap (λ (q : ℕ). q * w + j % w) (sym e) ∙ div-add-mod' j w

    by : (j < c * w) ⊎ (c * w + w ≤ j) → ⊥
    by (inl q) = omega (arith, at)
    by (inr q) = omega (arith, at, mod-lt j pos)

-- another cell of a grid is in another row or another column
pub other_cell : (w r i j : ℕ) → i < w → j ≢ r * w + i → j / w ≡ r → j % w ≢ i
other_cell w r i j lt n e q = n (sym (div-add-mod' j w) ∙ ap (λ (k : ℕ). k * w + j % w) e ∙ ap (λ (k : ℕ). r * w + k) q)

module _ (sizes l : List ℕ) (M : List Table) (t : ℕ) (h : Holds sizes l M) where
  -- a table that is one row
  module _ (xs : List ℕ) (is : get_or M t blank ≡ cell xs) where
    pub row_of : length xs < get_or sizes t 0 → Row l (base sizes t) (get_or sizes t 0) xs
    row_of few = record { fits = fits; at = λ i lt. h.at t i lt ∙ ap (λ (g : Table). g i) is; few = few }
      where
        fits : base sizes t + get_or sizes t 0 ≤ length l
        fits = let n = get_or sizes t 0 in omega (arith, inside sizes l M t h (n - 1) (omega arith))

  pub row_changed : (l' xs' : List ℕ) → t < length M → Changed l l' (base sizes t) (get_or sizes t 0) (cell xs') → Holds sizes l' (set M t (cell xs'))
  row_changed l' xs' lt c =
      let e : base sizes t ≡ base sizes t + 0 = omega arith in
      holds_changed sizes l M t h l' 0 (get_or sizes t 0) (cell xs') (cell xs') lt (omega arith) (subst (λ (a : ℕ). Changed l l' a (get_or sizes t 0) (cell xs')) e c)
      (λ i li. let z : 0 + i ≡ i = omega arith in ap (cell xs') z) (λ j lj o. absurd (none j lj o))
    where
      none : (j : ℕ) → j < get_or sizes t 0 → (j < 0) ⊎ (0 + get_or sizes t 0 ≤ j) → ⊥
      none j lj (inl q) = omega arith
      none j lj (inr q) = omega arith

  -- row c of a table of rows
  module _ (w : ℕ) (f : ℕ → List ℕ) (c : ℕ) (is : get_or M t blank ≡ rows w f) (whole : c * w + w ≤ get_or sizes t 0) where
    pub row_among : length (f c) < w → Row l (base sizes t + c * w) w (f c)
    row_among few = record { fits = fits; at = at; few = few }
      where
        fits : base sizes t + c * w + w ≤ length l
        fits = omega (arith, inside sizes l M t h (c * w + (w - 1)) (omega arith))

        at : (i : ℕ) → i < w → get_or l (base sizes t + c * w + i) 0 ≡ cell (f c) i
        at i lt =
            let e : base sizes t + c * w + i ≡ base sizes t + (c * w + i) = omega arith in
            ap (λ (k : ℕ). get_or l k 0) e ∙ h.at t (c * w + i) (omega arith) ∙ ap (λ (g : Table). g (c * w + i)) is ∙ grid_at w (λ r. cell (f r)) c i lt

    pub rows_changed : (l' : List ℕ) (f' : ℕ → List ℕ) → 0 < w → t < length M → Changed l l' (base sizes t + c * w) w (cell (f' c)) → ((b : ℕ) → b ≢ c → f' b ≡ f b)
        → Holds sizes l' (set M t (rows w f'))
    rows_changed l' f' pos lt ch others =
        holds_changed sizes l M t h l' (c * w) w (cell (f' c)) (rows w f') lt whole ch (λ i li. grid_at w (λ r. cell (f' r)) c i li)
        (λ j lj o. ap (λ (xs : List ℕ). cell xs (j % w)) (others (j / w) (elsewhere w c j pos o)) ∙ ap (λ (g : Table). g j) (sym is))

  -- one cell of a grid is stored
  pub grid_store : (w : ℕ) (f f' : ℕ → Table) (r i v : ℕ) → get_or M t blank ≡ grid w f → r * w + i < get_or sizes t 0 → i < w → t < length M
      → f' r i ≡ v → ((q k : ℕ) → (q ≡ r → k ≢ i) → f' q k ≡ f q k) → Holds sizes (set l (base sizes t + (r * w + i)) v) (set M t (grid w f'))
  grid_store w f f' r i v is there li lt on off =
      store sizes l M t h (r * w + i) v (grid w f') lt there (grid_at w f' r i li ∙ on)
      (λ j lj n. off (j / w) (j % w) (other_cell w r i j li n) ∙ ap (λ (g : Table). g j) (sym is))
