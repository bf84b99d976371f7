-- A branch's lines are those of its destinations.
-- Assumes nothing.
use Prim.Native.Nat.{ℕ}
use mathlib.Core.Path.{◌≡◌, sym, ap, ◌∙◌}
use mathlib.Core.Bool.{Bool, true, false, cond}
use mathlib.Core.List.{List, []}
use lib.ListN.{length, get_or}
use Rattle.definition.specs.Base.{up_from}
use Rattle.layout.specs.Rows.{entries}
use Rattle.lines.specs.Text.{each, edge_line, edge_lines}
use Rattle.drawable.specs.Fits.{dests_at, args_at, branches}
use Rattle.draw.specs.Seen.{seen}

module _ (graph form : List ℕ) (b : ℕ) where
  -- the lines of b's branch, if these are its destinations
  abbrev lines_to : List ℕ → List ℕ
  lines_to ds = each (λ i. edge_line b (get_or ds i 0) (entries form (args_at b i))) (up_from 0 (length ds))

  lines_by : {m : Bool} → branches graph b ≡ m → edge_lines (seen graph form) b ≡ lines_to (cond m (entries graph (dests_at b)) [])
  lines_by e = ap (λ (z : Bool). lines_to (cond z (entries graph (dests_at b)) [])) e

  pub no_lines : branches graph b ≡ false → edge_lines (seen graph form) b ≡ []
  unfolding each
  no_lines e = lines_by e

  pub some_lines : branches graph b ≡ true → {ds : List ℕ} → ds ≡ entries graph (dests_at b) → edge_lines (seen graph form) b ≡ lines_to ds
  some_lines e p = lines_by e ∙ ap lines_to (sym p)
