-- Columns with a cell for each value made so far: one value more, one value changed. The cells from the next value on are zeros on both sides.
-- Assumes nothing.
use Prim.Native.Nat.{ℕ, suc, ◌<◌, ◌≤◌}
use mathlib.Core.Path.{◌≡◌, sym, ap, ◌∙◌}
use mathlib.Core.Logic.{◌≢◌, ◌⊎◌, inl, inr}
use mathlib.Core.Bool.{Bool, cond}
use native.Mathlib.Omega.{arith}
use borrow.Author.Tests.{lt-ltb, le-ltb}
use Rattle.layout.specs.Cells.{Table, upto}
use Rattle.layout.proofs.Cells.{below?}

pub upto_in : (n : ℕ) (f : Table) (j : ℕ) → j < n → upto n f j ≡ f j
upto_in n f j lt = ap (λ (z : Bool). cond z (f j) 0) (lt-ltb j n lt)

pub upto_out : (n : ℕ) (f : Table) (j : ℕ) → n ≤ j → upto n f j ≡ 0
upto_out n f j le = ap (λ (z : Bool). cond z (f j) 0) (le-ltb j n le)

-- away from the new value
pub upto_more : (n : ℕ) (f f' : Table) (j : ℕ) → (j < n → f' j ≡ f j) → j ≢ n → upto (suc n) f' j ≡ upto n f j
upto_more n f f' j same d = by (below? j n)
  where
    by : (j < n) ⊎ (n ≤ j) → upto (suc n) f' j ≡ upto n f j
    by (inl lt) = upto_in (suc n) f' j (omega arith) ∙ same lt ∙ sym (upto_in n f j lt)
    by (inr le) = upto_out (suc n) f' j (omega arith) ∙ sym (upto_out n f j le)
