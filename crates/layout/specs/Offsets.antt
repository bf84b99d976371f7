-- Where each table starts at the limits of docs/RULES.md, as numbers.
-- Assumes nothing.
use Rattle.std.specs.Prelude.{ℕ, suc, ◌≡◌, refl, List, [], ◌∷◌, map, length}
use Rattle.definition.specs.Base.{up_from}
use Rattle.layout.specs.Cells.{base}
use Rattle.layout.specs.Layout.{type_row, dest_row, pred_row, zero_row, param_row, wait_row, graph_sizes, form_sizes, work_sizes}

-- where each table starts, and last where all end: the need
abbrev pub starts : List ℕ → List ℕ
starts sizes = map (base sizes) (up_from 0 (suc (length sizes)))

-- cells of a row of types, destinations, predecessors, zeros, parameters, pending variables
widths : type_row ∷ dest_row ∷ pred_row ∷ zero_row ∷ param_row ∷ wait_row ∷ [] ≡ 65 ∷ 9 ∷ 65 ∷ 4097 ∷ 129 ∷ 65 ∷ []
widths = refl

-- blocks, types, branch marks, sealed marks, declared marks, variables' marks, destinations, predecessors
graph_starts : starts graph_sizes ≡ 0 ∷ 1 ∷ 66 ∷ 130 ∷ 194 ∷ 258 ∷ 322 ∷ 898 ∷ 5058 ∷ []
graph_starts = refl

-- values, made values, target, description, placed, zero calls, zero blocks, parameters, caller's parameters, pending variables,
-- last definitions, arguments
form_starts : starts form_sizes
    ≡ 0 ∷ 1 ∷ 2 ∷ 16386 ∷ 32770 ∷ 32835 ∷ 36932 ∷ 41029 ∷ 49285 ∷ 49349 ∷ 53509 ∷ 57605 ∷ 123653 ∷ []
form_starts = refl

-- scheduled calls' values, their blocks, results
work_starts : starts work_sizes ≡ 0 ∷ 576 ∷ 1152 ∷ 1665 ∷ []
work_starts = refl
