-- What clearing leaves: the render of the empty session, and past the need what was there.
-- Assumes nothing.
use Rattle.std.specs.Prelude.{ℕ, ◌≤◌, ◌≡◌, List, ◌++◌, length, drop, replicate}
use Rattle.entity.specs.Limits.{limits, graph_need, form_need}
use Rattle.definition.specs.Session.{empty}
use Rattle.layout.specs.Layout.{render_graph, render_form}

-- the first n cells are 0
unfoldable pub blanked : ℕ → List ℕ → List ℕ
blanked n l = replicate n 0 ++ drop n l

-- each list is as long as its need
pub record Long (graph form : List ℕ) : Type 0 where
  pub graph_long : graph_need limits ≤ length graph
  pub form_long : form_need limits ≤ length form

pub record Cleared (graph form graph' form' : List ℕ) : Type 0 where
  pub graph_empty : graph' ≡ render_graph empty.graph ++ drop (graph_need limits) graph
  pub form_empty : form' ≡ render_form empty.form ++ drop (form_need limits) form
