-- `next_recorded` meets its contract: what `position` finds in the rest of the cells is where the first recorded one stands.
-- Assumes nothing.
use Rattle.std.specs.Prelude.{Option, unwrap_or}
use Rattle.std.specs.List.{slice_range, position, position_or_len}
use Rattle.std.proofs.Common.{ℕ, suc, ◌≡◌, ◌+◌, Bool, true, false, not, ltb, List, [], ◌∷◌, length, drop, refl, arith, rules, tests, length-drop}
use Rattle.std.proofs.Math.Seq.{take-length}
use Rattle.std.proofs.lemmas.Iterator.{YieldsList-from_slice}
use Rattle.std.proofs.lemmas.Iterator.Search.{position_from_yields_List}
use Rattle.std.proofs.lemmas.List.Sums.{prefix_len-le-length}
use borrow.Author.Tests.{ltb-false}
use Rattle.reader.specs.Marks.{marked, next_of}
use Rattle.reader.proofs.next_recorded.Goals as goal

-- it is as far on as the first marked cell, or as the cells are many
next_at : (x : ℕ) (cs : List ℕ) → next_of x cs ≡ x + position_or_len marked cs
next_at x [] = omega arith
next_at x (c ∷ cs) = by (marked c) refl (next_at (suc x) cs)
  where
    by : (z : Bool) → marked c ≡ z → next_of (suc x) cs ≡ suc x + position_or_len marked cs → next_of x (c ∷ cs) ≡ x + position_or_len marked (c ∷ cs)
    by true e rest = rw e (omega arith)
    by false e rest = rw e (omega (arith, rest))

-- what `position` finds, or the length
found_or_length : (r : Option ℕ) (cs : List ℕ) → r ≡ position marked cs → unwrap_or r (length cs) ≡ position_or_len marked cs
found_or_length r cs e = by (ltb (position_or_len marked cs) (length cs)) refl
  where
    by : (z : Bool) → ltb (position_or_len marked cs) (length cs) ≡ z → unwrap_or r (length cs) ≡ position_or_len marked cs
    by true t = rw (e, t)
    by false f = rw (e, f) (omega (arith, ltb-false (position_or_len marked cs) (length cs) f, prefix_len-le-length (λ c. not (marked c)) cs))

-- the rest of the cells
rest_is : (n : ℕ) (t : List ℕ) → slice_range t n (length t) ≡ drop n t
rest_is n t = rw (← length-drop n t) (take-length (drop n t))

pub returns : goal.returns
returns c =
    let rest = c.in-Some.rest.now in
    let found = position_from_yields_List marked _ _ c.position-marked.result c.position-marked.ensures.ran
    (YieldsList-from_slice rest cc) (λ x b q k. search (rules, tests)) in
    let at = next_at c.args.from rest in
    let far = found_or_length c.position-marked.result rest found in
    rw (← rest_is c.args.from c.args.described.now, ← c.in-Some.ensures.lookup.0.2) (omega (arith, at, far, c.unwrap_or.ensures))
