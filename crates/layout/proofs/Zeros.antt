-- Cells that are all zero show the empty state: each of its tables is zero everywhere. So a session starts by clearing what it needs.
-- Assumes nothing.
use Prim.Native.Nat.{ℕ, zero, suc, ◌+◌, ◌%◌, ◌≤◌, ◌<◌}
use mathlib.Core.Path.{◌≡◌, refl, sym, ◌∙◌}
use mathlib.Core.List.{List, [], ◌∷◌}
use native.Mathlib.Omega.{arith}
use lib.ListN.{length, get_or}
use Rattle.definition.specs.Session.{empty}
use Rattle.layout.specs.Cells.{Table, blank, sum, base, Holds, cell, upto}
use Rattle.layout.specs.Layout.{pred_row, dest_row, param_row, wait_row, graph_sizes, graph_tables, form_sizes, form_tables, work_sizes}
use Rattle.layout.proofs.Cells.{within}
use Rattle.layout.proofs.Values.{upto_out}

infixr 40 ◌&◌
data Zero : List Table → Type 0 where
  end : Zero []
  ◌&◌ : {f : Table} {fs : List Table} → ((j : ℕ) → f j ≡ 0) → Zero fs → Zero (f ∷ fs)

zero_at : (M : List Table) → Zero M → (t j : ℕ) → get_or M t blank j ≡ 0
zero_at [] end t j = refl
zero_at (f ∷ fs) (z & zs) zero j = z j
zero_at (f ∷ fs) (z & zs) (suc t) j = zero_at fs zs t j

nothing : (j : ℕ) → blank j ≡ 0
nothing j = refl

no_entry : (j : ℕ) → cell [] j ≡ 0
no_entry zero = refl
no_entry (suc j) = refl

no_row : (w j : ℕ) → cell [] (j % w) ≡ 0
no_row w j = no_entry (j % w)

no_value : (f : Table) (j : ℕ) → upto 0 f j ≡ 0
no_value f j = upto_out 0 f j (omega arith)

module _ (l : List ℕ) where
  zeros_hold : (sizes : List ℕ) (M : List Table) → Zero M → sum sizes ≤ length l → ((i : ℕ) → i < sum sizes → get_or l i 0 ≡ 0) → Holds sizes l M
  zeros_hold sizes M z long cleared = record { long = long; at = λ t j lt. cleared (base sizes t + j) (within sizes t j lt) ∙ sym (zero_at M z t j) }

  pub zeros_graph : sum graph_sizes ≤ length l → ((i : ℕ) → i < sum graph_sizes → get_or l i 0 ≡ 0) → Holds graph_sizes l (graph_tables empty.graph)
  zeros_graph = zeros_hold graph_sizes (graph_tables empty.graph) (nothing & no_entry & nothing & nothing & nothing & nothing & no_row dest_row & no_row pred_row & end)

  pub zeros_form : sum form_sizes ≤ length l → ((i : ℕ) → i < sum form_sizes → get_or l i 0 ≡ 0) → Holds form_sizes l (form_tables empty.form)
  zeros_form =
      zeros_hold form_sizes (form_tables empty.form)
      (nothing & nothing & no_value _ & no_value _ & no_entry & no_entry & no_entry
      & no_row param_row & nothing & no_row wait_row & nothing & no_row param_row & end)

  pub zeros_work : sum work_sizes ≤ length l → ((i : ℕ) → i < sum work_sizes → get_or l i 0 ≡ 0) → Holds work_sizes l []
  zeros_work = zeros_hold work_sizes [] end
