-- Cells that hold tables: tables lie apart, so a change within one table leaves the others; the tables fix every cell, so cells of exactly
-- the length are the render.
-- Assumes nothing.
use Prim.Native.Nat.{ℕ, zero, suc, ◌+◌, ◌-◌, ◌≤◌, ◌<◌}
use mathlib.Core.Path.{◌≡◌, refl, sym, ap, ◌∙◌, subst}
use mathlib.Core.Logic.{◌≢◌, ◌⊎◌, inl, inr}
use mathlib.Core.Bool.{Bool, true, false}
use mathlib.Core.List.{List, [], ◌∷◌, ◌++◌}
use native.Mathlib.Omega.{arith}
use native.Mathlib.Nat.{not-suc-le-zero, le_of_suc-le-suc}
use lib.Dec.{ltb}
use borrow.Author.Tests.{ltb-true, ltb-false}
use borrow.Table.Elements.{take-le}
use lib.ListN.{length, get_or, set, take, length-append, length-set, get_or-append}
use lib.Seq.{get_or-set_same, get_or-set_other, get_or-append-add, get_or-take, ext_get_or}
use Rattle.meaning.proofs.Maps.{same?}
use Rattle.layout.specs.Cells.{Table, blank, sum, base, line, render, Holds}

pub below? : (a b : ℕ) → (a < b) ⊎ (b ≤ a)
below? a b = by (ltb a b) refl
  where
    by : (z : Bool) → ltb a b ≡ z → (a < b) ⊎ (b ≤ a)
    by true e = inl (ltb-true a b e)
    by false e = inr (ltb-false a b e)

-- table t ends before a later one starts
apart : (sizes : List ℕ) (t u : ℕ) → t < u → base sizes t + get_or sizes t 0 ≤ base sizes u
apart [] zero u h = omega arith
apart [] (suc t) u h = omega arith
apart (n ∷ ns) t zero h = absurd (not-suc-le-zero h)
apart (n ∷ ns) zero (suc u) h = omega arith
apart (n ∷ ns) (suc t) (suc u) h = omega (arith, apart ns t u (le_of_suc-le-suc h))

pub within : (sizes : List ℕ) (t j : ℕ) → j < get_or sizes t 0 → base sizes t + j < sum sizes
within [] t j h = absurd (not-suc-le-zero h)
within (n ∷ ns) zero j h = omega arith
within (n ∷ ns) (suc t) j h = omega (arith, within ns t j h)

-- cells whose first ones hold the tables hold them
pub holds_more : (sizes l : List ℕ) (M : List Table) → Holds sizes (take (sum sizes) l) M → Holds sizes l M
holds_more sizes l M h = record {
  long = omega (arith, h.long, take-le (sum sizes) l);
  at = λ t j lt. sym (get_or-take (sum sizes) l (base sizes t + j) 0 (within sizes t j lt)) ∙ h.at t j lt;
}

-- ---- a change within one table

-- `new` is `old`, but its w cells from a on are g
pub record Changed (old new : List ℕ) (a w : ℕ) (g : Table) : Type 0 where
  pub long : length new ≡ length old
  pub here : (i : ℕ) → i < w → get_or new (a + i) 0 ≡ g i
  pub else : (i : ℕ) → (i < a) ⊎ (a + w ≤ i) → get_or new i 0 ≡ get_or old i 0

module _ (sizes l : List ℕ) (M : List Table) (t : ℕ) (h : Holds sizes l M) where
  -- a cell of a table is there, and can be read
  pub inside : (j : ℕ) → j < get_or sizes t 0 → base sizes t + j < length l
  inside j lt = omega (arith, within sizes t j lt, h.long)

  -- table t becomes f: g in the w cells from k on, as it was elsewhere
  pub holds_changed : (l' : List ℕ) (k w : ℕ) (g f : Table) → t < length M → k + w ≤ get_or sizes t 0 → Changed l l' (base sizes t + k) w g
      → ((i : ℕ) → i < w → f (k + i) ≡ g i) → ((j : ℕ) → j < get_or sizes t 0 → (j < k) ⊎ (k + w ≤ j) → f j ≡ get_or M t blank j) → Holds sizes l' (set M t f)
  holds_changed l' k w g f lt fits c on off = record { long = omega (arith, c.long, h.long); at = λ u j lj. by u j lj (same? u t) }
    where
      kept : (u j : ℕ) → j < get_or sizes u 0 → (base sizes u + j < base sizes t + k) ⊎ (base sizes t + k + w ≤ base sizes u + j) → get_or l' (base sizes u + j) 0 ≡ get_or M u blank j
      kept u j lj o = c.else (base sizes u + j) o ∙ h.at u j lj

      side : (u j : ℕ) → j < get_or sizes u 0 → u ≢ t → (u < t) ⊎ (t ≤ u) → (base sizes u + j < base sizes t + k) ⊎ (base sizes t + k + w ≤ base sizes u + j)
      side u j lj n (inl q) = inl (omega (arith, apart sizes u t q))
      side u j lj n (inr q) = inr (omega (arith, apart sizes t u (omega arith)))

      new : (j : ℕ) → get_or (set M t f) t blank j ≡ f j
      new j = ap (λ (q : Table). q j) (get_or-set_same M t f blank lt)

      own : (j : ℕ) → j < get_or sizes t 0 → (j < k) ⊎ (k ≤ j) → (j < k + w) ⊎ (k + w ≤ j) → get_or l' (base sizes t + j) 0 ≡ f j
      own j lj (inl p) q = kept t j lj (inl (omega arith)) ∙ sym (off j lj (inl p))
      own j lj (inr p) (inr q) = kept t j lj (inr (omega arith)) ∙ sym (off j lj (inr q))
      own j lj (inr p) (inl q) =
          let e : base sizes t + j ≡ base sizes t + k + (j - k) = omega arith in
          let e' : k + (j - k) ≡ j = omega arith in
          ap (λ (i : ℕ). get_or l' i 0) e ∙ c.here (j - k) (omega arith) ∙ sym (on (j - k) (omega arith)) ∙ ap f e'

      by : (u j : ℕ) → j < get_or sizes u 0 → (u ≡ t) ⊎ (u ≢ t) → get_or l' (base sizes u + j) 0 ≡ get_or (set M t f) u blank j
      by u j lj (inr n) = kept u j lj (side u j lj n (below? u t)) ∙ sym (ap (λ (q : Table). q j) (get_or-set_other M t u f blank n))
      by u j lj (inl e) =
          let lj' : j < get_or sizes t 0 = subst (λ (i : ℕ). j < get_or sizes i 0) e lj in
          ap (λ (i : ℕ). get_or l' (base sizes i + j) 0) e ∙ own j lj' (below? j k) (below? j (k + w)) ∙ sym (ap (λ (i : ℕ). get_or (set M t f) i blank j) e ∙ new j)

  -- one cell is stored: v at j, and table t becomes f
  pub store : (j v : ℕ) (f : Table) → t < length M → j < get_or sizes t 0 → f j ≡ v → ((i : ℕ) → i < get_or sizes t 0 → i ≢ j → f i ≡ get_or M t blank i)
      → Holds sizes (set l (base sizes t + j) v) (set M t f)
  store j v f lt lj on off =
      holds_changed (set l (base sizes t + j) v) j 1 (λ i. v) f lt (omega arith)
      record {
        long = length-set l (base sizes t + j) v;
        here = λ i li. let e : base sizes t + j + i ≡ base sizes t + j = omega arith in ap (λ (q : ℕ). get_or (set l (base sizes t + j) v) q 0) e ∙ get_or-set_same l (base sizes t + j) v 0 (inside j lj);
        else = λ i o. get_or-set_other l (base sizes t + j) i v 0 (outside i o);
      }
      (λ i li. let e : j + i ≡ j = omega arith in ap f e ∙ on)
      (λ i li o. off i li (outside_j i o))
    where
      outside : (i : ℕ) → (i < base sizes t + j) ⊎ (base sizes t + j + 1 ≤ i) → i ≢ base sizes t + j
      outside i (inl q) e = omega arith
      outside i (inr q) e = omega arith

      outside_j : (i : ℕ) → (i < j) ⊎ (j + 1 ≤ i) → i ≢ j
      outside_j i (inl q) e = omega arith
      outside_j i (inr q) e = omega arith

-- ---- the render

line_length : (n : ℕ) (f : Table) → length (line n f) ≡ n
unfolding line
line_length zero f = refl
line_length (suc n) f = ap suc (line_length n (λ j. f (suc j)))

line_at : (n : ℕ) (f : Table) (i : ℕ) → i < n → get_or (line n f) i 0 ≡ f i
unfolding line
line_at zero f i lt = absurd (not-suc-le-zero lt)
line_at (suc n) f zero lt = refl
line_at (suc n) f (suc i) lt = line_at n (λ j. f (suc j)) i (le_of_suc-le-suc lt)

-- a written table and a list after it
line_then : (n : ℕ) (f : Table) (r : List ℕ) (k : ℕ) → get_or (line n f ++ r) (n + k) 0 ≡ get_or r k 0
line_then n f r k = ap (λ (i : ℕ). get_or (line n f ++ r) (i + k) 0) (sym (line_length n f)) ∙ get_or-append-add (line n f) r k 0

line_in : (n : ℕ) (f : Table) (r : List ℕ) (i : ℕ) → i < n → get_or (line n f ++ r) i 0 ≡ f i
line_in n f r i lt = get_or-append (line n f) r 0 i (rw line_length lt) ∙ line_at n f i lt

line_more : (n m : ℕ) (f : Table) (r : List ℕ) → length r ≡ m → length (line n f ++ r) ≡ n + m
line_more n m f r e = length-append (line n f) r ∙ omega (arith, line_length n f)

pub render_length : (sizes : List ℕ) (M : List Table) → length (render sizes M) ≡ sum sizes
unfolding render
render_length [] M = refl
render_length (n ∷ ns) [] = line_more n (sum ns) blank (render ns []) (render_length ns [])
render_length (n ∷ ns) (f ∷ fs) = line_more n (sum ns) f (render ns fs) (render_length ns fs)

render_at : (sizes : List ℕ) (M : List Table) (t j : ℕ) → j < get_or sizes t 0 → get_or (render sizes M) (base sizes t + j) 0 ≡ get_or M t blank j
unfolding render
render_at [] M t j lt = absurd (not-suc-le-zero lt)
render_at (n ∷ ns) [] zero j lt = let e : 0 + j ≡ j = omega arith in rw e (line_in n blank (render ns []) j lt)
render_at (n ∷ ns) (f ∷ fs) zero j lt = let e : 0 + j ≡ j = omega arith in rw e (line_in n f (render ns fs) j lt)
render_at (n ∷ ns) [] (suc t) j lt =
    let e : n + base ns t + j ≡ n + (base ns t + j) = omega arith in
    rw e (line_then n blank (render ns []) (base ns t + j) ∙ render_at ns [] t j lt)
render_at (n ∷ ns) (f ∷ fs) (suc t) j lt =
    let e : n + base ns t + j ≡ n + (base ns t + j) = omega arith in
    rw e (line_then n f (render ns fs) (base ns t + j) ∙ render_at ns fs t j lt)

pub render_holds : (sizes : List ℕ) (M : List Table) → Holds sizes (render sizes M) M
render_holds sizes M = record { long = omega (arith, render_length sizes M); at = render_at sizes M }

-- which table a cell is in
locate : (sizes : List ℕ) (i : ℕ) → i < sum sizes → (t : ℕ) × (j : ℕ) × (j < get_or sizes t 0) × (i ≡ base sizes t + j)
locate [] i h = absurd (not-suc-le-zero h)
locate (n ∷ ns) i h = by (below? i n) (λ l. locate ns (i - n) l)
  where
    by : (i < n) ⊎ (n ≤ i) → (i - n < sum ns → (t : ℕ) × (j : ℕ) × (j < get_or ns t 0) × (i - n ≡ base ns t + j)) → (t : ℕ) × (j : ℕ) × (j < get_or (n ∷ ns) t 0) × (i ≡ base (n ∷ ns) t + j)
    by (inl l) rec = (0, i, l, omega arith)
    by (inr l) rec = let r = rec (omega arith) in (suc r.0, r.1, r.2, omega (arith, r.3))

-- Of exactly the length, `Holds` says that the cells are the render.
pub holds_render : (sizes l : List ℕ) (M : List Table) → length l ≡ sum sizes → Holds sizes l M → l ≡ render sizes M
holds_render sizes l M e h =
    ext_get_or 0 l (render sizes M) (e ∙ sym (render_length sizes M))
    (λ i lt. let r = locate sizes i (omega arith) in ap (λ (n : ℕ). get_or l n 0) r.3 ∙ h.at r.0 r.1 r.2 ∙ sym (ap (λ (n : ℕ). get_or (render sizes M) n 0) r.3 ∙ render_at sizes M r.0 r.1 r.2))

pub render_held : (sizes l : List ℕ) (M : List Table) → l ≡ render sizes M → Holds sizes l M
render_held sizes l M e = rw e (render_holds sizes M)

-- renders that are the same show the same tables
pub render_same : (sizes : List ℕ) (M M' : List Table) → render sizes M ≡ render sizes M' → (t j : ℕ) → j < get_or sizes t 0 → get_or M t blank j ≡ get_or M' t blank j
render_same sizes M M' e t j lt = sym (render_at sizes M t j lt) ∙ ap (λ (l : List ℕ). get_or l (base sizes t + j) 0) e ∙ render_at sizes M' t j lt
