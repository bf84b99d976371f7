-- The suppositions of demand 3, each decided by looking at the finished session.
-- Assumes nothing.
use Rattle.std.specs.Prelude.{ℕ, zero, suc, Bool, true, not, ◌&&◌, ◌||◌, List, [], ◌∷◌, length, get_or}
use Rattle.definition.specs.Base.{has, every, ◌=?◌}
use Rattle.definition.specs.Session.{State}
use Rattle.meaning.specs.Path.{Act, makes, gives, uses, acts, given, callers}

-- f holds of each number below n
abbrev pub below : ℕ → (ℕ → Bool) → Bool
below zero f = true
below (suc n) f = f n && below n f

-- the values made or answered among some acts
abbrev pub values : List Act → List ℕ
values [] = []
values (makes x ∷ r) = x ∷ values r
values (gives v x ∷ r) = values r
values (uses w x ∷ r) = x ∷ values r

-- each definition takes a value of l, or one that was made or answered before
abbrev pub owned? : List ℕ → List Act → Bool
owned? l [] = true
owned? l (makes x ∷ r) = owned? (x ∷ l) r
owned? l (gives v x ∷ r) = has x l && owned? l r
owned? l (uses w x ∷ r) = owned? (x ∷ l) r

module _ (t : State) where
  abbrev pub all_sealed? : Bool
  all_sealed? = below t.graph.blocks t.graph.sealed

  abbrev pub none_enters_0? : Bool
  none_enters_0? = below t.graph.blocks (λ p. not (has 0 (t.graph.dests p)))

  abbrev pub all_declared? : Bool
  all_declared? = below t.graph.blocks (λ p. every (λ b. has p (t.graph.preds b)) (t.graph.dests p))

  abbrev pub own_values? : Bool
  own_values? = below t.graph.blocks (λ b. owned? (callers t.form b) (acts b t.done))

  -- of each destination at a place
  abbrev pub own_counts? : Bool
  own_counts? = below t.graph.blocks (λ p. below (length (t.graph.dests p))
      (λ i. length (given p i t.done) =? t.form.owns (get_or (t.graph.dests p) i 0)))

  abbrev pub own_sources? : Bool
  own_sources? = below t.graph.blocks (λ p. below (length (t.graph.dests p))
      (λ i. every (λ x. has x (values (acts p t.done)) || has x (callers t.form p)) (given p i t.done)))

  abbrev pub own_args? : Bool
  own_args? = own_counts? && own_sources?

-- all five
abbrev pub supposed? : State → Bool
supposed? t = all_sealed? t && none_enters_0? t && all_declared? t && own_values? t && own_args? t
