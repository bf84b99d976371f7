-- A table with a cell for each value made so far: one value is read, one is added, one is changed.
-- One cell is stored, and those past the values stay zeros.
-- Assumes nothing.
use Prim.Native.Nat.{ℕ, suc, ◌+◌, ◌<◌, ◌≤◌}
use mathlib.Core.Path.{◌≡◌, sym, ap, ◌∙◌}
use mathlib.Core.Logic.{◌≢◌}
use mathlib.Core.Bool.{cond}
use mathlib.Core.List.{List}
use native.Mathlib.Omega.{arith}
use lib.Dec.{ltb}
use lib.ListN.{length, get_or, set}
use Rattle.layout.specs.Cells.{Table, blank, base, Holds, upto}
use Rattle.layout.proofs.Cells.{store}
use Rattle.layout.proofs.Values.{upto_in, upto_more}

module _ (sizes l : List ℕ) (M : List Table) (t : ℕ) (h : Holds sizes l M) (n : ℕ) (f : Table) (is : get_or M t blank ≡ upto n f) where
  pub column_at : (x : ℕ) → x < n → n ≤ get_or sizes t 0 → get_or l (base sizes t + x) 0 ≡ f x
  column_at x lt room = h.at t x (omega arith) ∙ ap (λ (g : Table). g x) is ∙ upto_in n f x lt

  pub column_more : (f' : Table) (v : ℕ) → t < length M → n < get_or sizes t 0 → f' n ≡ v → ((j : ℕ) → j < n → f' j ≡ f j) → Holds sizes (set l (base sizes t + n) v) (set M t (upto (suc n) f'))
  column_more f' v lt room on same =
      store sizes l M t h n v (upto (suc n) f') lt room (upto_in (suc n) f' n (omega arith) ∙ on)
      (λ i _ d. upto_more n f f' i (same i) d ∙ ap (λ (g : Table). g i) (sym is))

  pub column_put : (f' : Table) (x v : ℕ) → t < length M → x < n → n ≤ get_or sizes t 0 → f' x ≡ v → ((j : ℕ) → j ≢ x → f' j ≡ f j)
      → Holds sizes (set l (base sizes t + x) v) (set M t (upto n f'))
  column_put f' x v lt below room on same =
      store sizes l M t h x v (upto n f') lt (omega arith) (upto_in n f' x below ∙ on)
      (λ i _ d. ap (λ (q : ℕ). cond (ltb i n) q 0) (same i d) ∙ ap (λ (g : Table). g i) (sym is))
