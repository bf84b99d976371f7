-- Every alias chain ends, and ends where the definition's resolving does: the bound on its links is never met, as no chain is longer than there are aliases.
-- Assumes nothing.
use Prim.Native.Nat.{ℕ, zero, suc, ◌+◌, ◌<◌}
use mathlib.Core.Path.{◌≡◌, refl, sym, ap, ◌∙◌, subst}
use mathlib.Core.Bool.{Bool, true, false}
use mathlib.Core.List.{map}
use lib.Dec.{eqb}
use lib.ListN.{length, get_or, length-map}
use native.Mathlib.Omega.{arith}
use native.Mathlib.Nat.{not-suc-le-zero}
use Rattle.definition.specs.Base.{up_from}
use Rattle.definition.specs.Form.{Form, Graph}
use Rattle.definition.specs.Read.{follow, resolve}
use Rattle.definition.specs.Resolve.{Ends, here, on, targets}
use Rattle.meaning.specs.Machine.{Conf}
use Rattle.meaning.proofs.Alias.{Tree, root_is}
use Rattle.meaning.proofs.Inv.{Work}
use Rattle.meaning.proofs.Rooms.{Moment}

-- the list of targets
pub up_length : (i n : ℕ) → length (up_from i n) ≡ n
up_length i zero = refl
up_length i (suc n) = ap suc (up_length (suc i) n)

pub up_at : (f : ℕ → ℕ) (i n x : ℕ) → x < n → get_or (map f (up_from i n)) x 0 ≡ f (i + x)
up_at f i zero x l = absurd (not-suc-le-zero l)
up_at f i (suc n) zero l = ap f (omega arith)
up_at f i (suc n) (suc x) l = up_at f (suc i) n x (omega arith) ∙ ap f (omega arith)

module _ (s : Form) (tree : Tree s.target s.next) (closed : (x : ℕ) → x < s.next → s.target x < s.next) where
  in_targets : (x : ℕ) → x < s.next → x < length (targets s)
  in_targets x l = omega (arith, l, length-map (up_from 0 s.next) s.target, up_length 0 s.next)

  target_at : (x : ℕ) → x < s.next → get_or (targets s) x 0 ≡ s.target x
  target_at x l = up_at s.target 0 s.next x l ∙ ap s.target (omega arith)

  follow_ends : (n x : ℕ) → x < s.next → s.target (follow n s.target x) ≡ follow n s.target x → Ends (targets s) x (follow n s.target x)
  follow_ends zero x l r = here (in_targets x l) (target_at x l ∙ r)
  follow_ends (suc n) x l r = by (eqb (s.target x) x) r (follow_ends n (s.target x) (closed x l))
    where
      by : (z : Bool) → s.target (elim z as (λ _. ℕ) [ true ↦ x | false ↦ follow n s.target (s.target x) ]) ≡ (elim z as (λ _. ℕ)
          [ true ↦ x | false ↦ follow n s.target (s.target x) ])
          → (s.target (follow n s.target (s.target x)) ≡ follow n s.target (s.target x)
          → Ends (targets s) (s.target x) (follow n s.target (s.target x)))
          → Ends (targets s) x (elim z as (λ _. ℕ) [ true ↦ x | false ↦ follow n s.target (s.target x) ])
      by true q below = here (in_targets x l) (target_at x l ∙ q)
      by false q below = on (in_targets x l) (subst (λ (k : ℕ). Ends (targets s) k (follow n s.target (s.target x))) (sym (target_at x l)) (below q))

  pub chain_ends : (x : ℕ) → x < s.next → Ends (targets s) x (resolve s x)
  chain_ends x l = follow_ends s.next x l (root_is s.target s.next x tree)

-- at a moment of a run
pub chains_end_now : (g : Graph) (v : ℕ) (later : Work) (k : ℕ) (c : Conf) → Moment g v later k c
    → (x : ℕ) → x < c.form.next → Ends (targets c.form) x (resolve c.form x)
chains_end_now g v later k c m = let r = m.now.0.rest in chain_ends c.form r.inv.aliased.tree r.ranged.valued.closed
