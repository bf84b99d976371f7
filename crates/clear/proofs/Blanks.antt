-- Blank cells are the render of the empty session, since all of its tables hold 0.
-- Assumes nothing.
use Prim.Native.Nat.{ℕ, ◌<◌, ◌≤◌}
use mathlib.Core.Path.{◌≡◌, ap}
use mathlib.Core.List.{List, [], ◌++◌}
use native.Mathlib.Omega.{arith}
use lib.ListN.{length, get_or, drop, replicate, length-replicate, get_or-replicate}
use Rattle.definition.specs.Session.{empty}
use Rattle.layout.specs.Cells.{sum, Table, Holds, render}
use Rattle.layout.specs.Layout.{graph_sizes, form_sizes, work_sizes, render_graph, render_form, render_work, graph_tables, form_tables}
use Rattle.layout.proofs.Cells.{holds_render}
use Rattle.layout.proofs.Zeros.{zeros_graph, zeros_form, zeros_work}
use Rattle.clear.specs.Cleared.{blanked}

-- cells that are all 0
module _ (sizes : List ℕ) (M : List Table) (hold : (l : List ℕ) → sum sizes ≤ length l → ((i : ℕ) → i < sum sizes → get_or l i 0 ≡ 0) → Holds sizes l M) where
  blanks : replicate (sum sizes) 0 ≡ render sizes M
  blanks =
      let n = sum sizes in
      let l : List ℕ = replicate n 0 in
      let e : length l ≡ n = length-replicate n 0 in
      holds_render sizes l M e (hold l (omega (arith, e)) (λ i lt. get_or-replicate n i 0 0 lt))

  pub blanked_render : (l : List ℕ) → blanked (sum sizes) l ≡ render sizes M ++ drop (sum sizes) l
  unfolding blanked
  blanked_render l = ap (λ (r : List ℕ). r ++ drop (sum sizes) l) blanks

pub graph_blanked : (l : List ℕ) → blanked (sum graph_sizes) l ≡ render_graph empty.graph ++ drop (sum graph_sizes) l
graph_blanked = blanked_render graph_sizes (graph_tables empty.graph) zeros_graph

pub form_blanked : (l : List ℕ) → blanked (sum form_sizes) l ≡ render_form empty.form ++ drop (sum form_sizes) l
form_blanked = blanked_render form_sizes (form_tables empty.form) zeros_form

pub work_blanked : (l : List ℕ) → blanked (sum work_sizes) l ≡ render_work ++ drop (sum work_sizes) l
work_blanked = blanked_render work_sizes [] zeros_work
