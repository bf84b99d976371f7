-- What resolving answers exists and is unique: a walk along targets has one end at most, and comes to it in fewer steps than the list is long, since
-- the values on its way lie in the list and differ in the steps that they have left.
-- Assumes nothing.
use Prim.Native.Nat.{ℕ, zero, suc, ◌+◌, ◌≤◌, ◌<◌}
use mathlib.Core.Path.{◌≡◌, refl, sym, ap, ◌∙◌}
use mathlib.Core.List.{List}
use native.Mathlib.Decide.{ℕ_discrete, dec_lt}
use native.Mathlib.Omega.{arith}
use lib.ListN.{length, get_or}
use Rattle.definition.specs.Resolve.{Ends, here, on, Resolved, past, ends, lost}
use Rattle.alias.proofs.Pigeon.{pigeon}

-- ---- the end is unique

end_of_fixed : {ts : List ℕ} {x y : ℕ} → Ends ts x y → get_or ts x 0 ≡ x → y ≡ x
end_of_fixed (here h p) q = refl
end_of_fixed {ts} (on h r) q = end_of_fixed r (ap (λ z. get_or ts z 0) q) ∙ q

pub end_unique : {ts : List ℕ} {x y z : ℕ} → Ends ts x y → Ends ts x z → y ≡ z
end_unique (here h p) r = sym (end_of_fixed r p)
end_unique (on h r) (here g p) = end_of_fixed (on h r) p
end_unique (on h r) (on g s) = end_unique r s

ends_on : {ts : List ℕ} {x y : ℕ} → Ends ts x y → (get_or ts x 0 ≡ x → ⊥) → Ends ts (get_or ts x 0) y
ends_on (here h p) q = absurd (q p)
ends_on (on h r) q = r

-- ---- and it is near

-- n steps from x to an end, none of which starts at an end
pub data Left (ts : List ℕ) : ℕ → ℕ → Type 0 where
  none : {x : ℕ} → x < length ts → get_or ts x 0 ≡ x → Left ts x 0
  more : {x n : ℕ} → x < length ts → (get_or ts x 0 ≡ x → ⊥) → Left ts (get_or ts x 0) n → Left ts x (suc n)

left_in_list : {ts : List ℕ} {x n : ℕ} → Left ts x n → x < length ts
left_in_list (none h p) = h
left_in_list (more h q s) = h

ends_counted : {ts : List ℕ} {x y : ℕ} → Ends ts x y → (n : ℕ) × Left ts x n
ends_counted (here h p) = (0, none h p)
ends_counted {ts} (on {x} h r) = go (ℕ_discrete (get_or ts x 0) x) (ends_counted r)
  where
    go : Dec (get_or ts x 0 ≡ x) → ((n : ℕ) × Left ts (get_or ts x 0) n) → (n : ℕ) × Left ts x n
    go (yes p) s = (0, none h p)
    go (no q) s = (suc s.0, more h q s.1)

left_unique : {ts : List ℕ} {x n m : ℕ} → Left ts x n → Left ts x m → n ≡ m
left_unique (none h p) (none g r) = refl
left_unique (none h p) (more g q s) = absurd (q p)
left_unique (more h q s) (none g p) = absurd (q p)
left_unique (more h q s) (more g r t) = ap suc (left_unique s t)

-- the value i steps on
after : List ℕ → ℕ → ℕ → ℕ
after ts x zero = x
after ts x (suc i) = after ts (get_or ts x 0) i

left_along : {ts : List ℕ} {x n : ℕ} → Left ts x n → (i : ℕ) → i ≤ n → (k : ℕ) × (n ≡ i + k) × Left ts (after ts x i) k
unfolding after
left_along {n} s zero h = (n, omega arith, s)
left_along (none g p) (suc i) h = absurd (omega arith)
left_along (more g q s) (suc i) h = let r = left_along s i (omega arith) in (r.0, omega arith, r.2)

left_below_length : {ts : List ℕ} {x n : ℕ} → Left ts x n → n < length ts
left_below_length {ts} {x} {n} s =
    pigeon (suc n) (length ts) (after ts x) (λ i h. left_in_list (left_along s i (omega arith)).2) (λ i j h g p.
    let a = left_along s i (omega arith) in
    let b = left_along s j (omega arith) in
    omega (arith, left_unique a.2 (rw (← p) at b.2)))

-- ---- a walk on its way

-- i steps lead from x to `at`, none of which starts at an end
pub record Walked (ts : List ℕ) (x at i : ℕ) : Type 0 where
  pub start : x < length ts
  pub inside : at < length ts
  pub back : {y : ℕ} → Ends ts at y → Ends ts x y
  pub ahead : {n : ℕ} → Left ts x n → (k : ℕ) × (n ≡ i + k) × Left ts at k

pub begun : {ts : List ℕ} {x : ℕ} → x < length ts → Walked ts x x 0
begun h = record { start = h; inside = h; back = λ r. r; ahead = λ {n} s. (n, omega arith, s) }

left_next : {ts : List ℕ} {x k : ℕ} → Left ts x k → (get_or ts x 0 ≡ x → ⊥) → (j : ℕ) × (k ≡ suc j) × Left ts (get_or ts x 0) j
left_next (none h p) q = absurd (q p)
left_next (more {n} h r s) q = (n, refl, s)

module _ {ts : List ℕ} {x at i : ℕ} (w : Walked ts x at i) where
  pub came_to_end : get_or ts at 0 ≡ at → Resolved ts x 0 at
  came_to_end p = ends (w.back (here w.inside p))

  pub went_round : length ts ≤ i → Resolved ts x 14 0
  went_round h = lost w.start (λ y r. let s = (ends_counted r).1 in omega (arith, left_below_length s, (w.ahead s).1))

  module _ (q : get_or ts at 0 ≡ at → ⊥) where
    pub left_list : length ts ≤ get_or ts at 0 → Resolved ts x 14 0
    left_list h = lost w.start (λ y r. omega (arith, left_in_list (left_next (w.ahead (ends_counted r).1).2 q).2))

    pub goes_on : get_or ts at 0 < length ts → Walked ts x (get_or ts at 0) (i + 1)
    goes_on h = record {
      start = w.start;
      inside = h;
      back = λ r. w.back (on w.inside r);
      ahead = λ s.
          let a = w.ahead s in
          let b = left_next a.2 q in
          (b.0, omega arith, b.2);
    }

-- ---- a walk that is known to end

-- the links left from x, counted to n at most
step_left : {A : Type 0} → Dec A → ℕ → ℕ
step_left (yes p) n = zero
step_left (no q) n = suc n

pub links_left : ℕ → List ℕ → ℕ → ℕ
links_left zero ts x = zero
links_left (suc n) ts x = step_left (ℕ_discrete (get_or ts x 0) x) (links_left n ts (get_or ts x 0))

no_step_left : {A : Type 0} (d : Dec A) (n : ℕ) → A → step_left d n ≡ 0
unfolding step_left
no_step_left (yes p) n a = refl
no_step_left (no q) n a = absurd (q a)

one_step_more : {A : Type 0} (d : Dec A) (n : ℕ) → (A → ⊥) → step_left d n ≡ suc n
unfolding step_left
one_step_more (yes p) n f = absurd (f p)
one_step_more (no q) n f = refl

links_counted : {ts : List ℕ} {x k : ℕ} → Left ts x k → (n : ℕ) → k ≤ n → links_left n ts x ≡ k
unfolding links_left
links_counted (none h p) zero g = refl
links_counted (none h p) (suc n) g = no_step_left _ _ p
links_counted (more h q s) zero g = absurd (omega arith)
links_counted (more h q s) (suc n) g = one_step_more _ _ q ∙ ap suc (links_counted s n (omega arith))

-- the walks from x and from `at` end at the same value
abbrev pub SameEnd : List ℕ → ℕ → ℕ → Type 0
SameEnd ts x at = (y : ℕ) × Ends ts x y × Ends ts at y

module _ {ts : List ℕ} {x at : ℕ} (e : SameEnd ts x at) where
  pub same_end_inside : at < length ts
  same_end_inside = left_in_list (ends_counted e.2).1

  pub same_end_here : get_or ts at 0 ≡ at → Ends ts x (get_or ts at 0)
  same_end_here p = rw (end_of_fixed e.2 p ∙ sym p) at e.1

  module _ (q : get_or ts at 0 ≡ at → ⊥) where
    pub same_end_on : SameEnd ts x (get_or ts at 0)
    same_end_on = (e.0, e.1, ends_on e.2 q)

    pub fewer_links_left : links_left (length ts) ts (get_or ts at 0) < links_left (length ts) ts at
    fewer_links_left =
        let s = (ends_counted e.2).1 in
        let r = left_next s q in
        let near = left_below_length s in
        omega (arith, links_counted s (length ts) (omega arith), links_counted r.2 (length ts) (omega (arith, r.1)), r.1)

-- ---- what resolving answers

pub resolved_unique : {ts : List ℕ} {x c n d m : ℕ} → Resolved ts x c n → Resolved ts x d m → (c ≡ d) × (n ≡ m)
resolved_unique (past h) (past g) = (refl, refl)
resolved_unique (past h) (ends r) = absurd (omega (arith, left_in_list (ends_counted r).1))
resolved_unique (past h) (lost g q) = absurd (omega arith)
resolved_unique (ends r) (past h) = absurd (omega (arith, left_in_list (ends_counted r).1))
resolved_unique (ends r) (ends s) = (refl, end_unique r s)
resolved_unique (ends r) (lost g q) = absurd (q _ r)
resolved_unique (lost g q) (past h) = absurd (omega arith)
resolved_unique (lost g q) (ends r) = absurd (q _ r)
resolved_unique (lost g q) (lost h r) = (refl, refl)

abbrev Answered : List ℕ → ℕ → Type 0
Answered ts x = (c : ℕ) × (n : ℕ) × Resolved ts x c n

-- with l turns to go
walk_on : {ts : List ℕ} {x at i : ℕ} (l : ℕ) → Walked ts x at i → length ts ≡ i + l → Answered ts x
walk_on zero w e = (14, 0, went_round w (omega arith))
walk_on {ts} {x} {at} {i} (suc l) w e =
    turn (ℕ_discrete (get_or ts at 0) at) (dec_lt (get_or ts at 0) (length ts)) (λ v. walk_on {at = get_or ts at 0} {i = i + 1} l v (omega arith))
  where
    turn : Dec (get_or ts at 0 ≡ at) → Dec (get_or ts at 0 < length ts) → (Walked ts x (get_or ts at 0) (i + 1) → Answered ts x) → Answered ts x
    turn (yes p) d rest = (0, at, came_to_end w p)
    turn (no q) (yes h) rest = rest (goes_on w q h)
    turn (no q) (no h) rest = (14, 0, left_list w q (omega arith))

pub resolved_total : (ts : List ℕ) (x : ℕ) → (c : ℕ) × (n : ℕ) × Resolved ts x c n
resolved_total ts x = begin (dec_lt x (length ts))
  where
    begin : Dec (x < length ts) → Answered ts x
    begin (yes h) = walk_on (length ts) (begun h) (omega arith)
    begin (no h) = (6, 0, past (omega arith))
