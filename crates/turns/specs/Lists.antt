-- The lists that a run is given.
-- Assumes nothing.
use Rattle.std.specs.Prelude.{ℕ, ◌≤◌, ◌≡◌, List, length}
use Rattle.entity.specs.Limits.{limits, graph_need, form_need, work_need}

-- calls that are not too many, each a kind with its three numbers
pub record Fitting (ks xs ys zs : List ℕ) : Type 0 where
  pub few : length ks ≤ limits.calls
  pub xs_long : length xs ≡ length ks
  pub ys_long : length ys ≡ length ks
  pub zs_long : length zs ≡ length ks

-- each list of cells is just as long as its need
pub record Exact (graph form work : List ℕ) : Type 0 where
  pub graph_exact : length graph ≡ graph_need limits
  pub form_exact : length form ≡ form_need limits
  pub work_exact : length work ≡ work_need limits
