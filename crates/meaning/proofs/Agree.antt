-- Three lists of calls on whose paths each use finds what its variable received, shown by computing: the swap, a fork with a loop round its join, and a loop
-- that carries an index.
-- Assumes nothing.
use Prim.Native.Nat.{ℕ, ◌+◌, ◌*◌}
use mathlib.Core.Path.{◌≡◌, refl}
use mathlib.Core.List.{List, [], ◌∷◌, ◌++◌}
use Rattle.definition.specs.Session.{Call, session}
use Rattle.definition.specs.Calls.{declare_var, make_value, define, use_var, new_branch, new_dest, add_pred, seal, seal_all, own_param, give_arg, blocks}
use Rattle.definition.specs.Calls.{sets, jumps}
use Rattle.meaning.specs.Trace.{finds}

-- The swap, case J of docs/RULES.md. Block 0 gives variables 0 and 1 their values; block 1 uses both, answers 2 and 3, gives each the other's answer, and goes
-- round. Parameters take their arguments at once, so no value is lost.
abbrev pub swap : List Call
swap =
    blocks 2 ++ declare_var 0 2 ∷ declare_var 1 2 ∷ []
    ++ sets 0 2 0 0 ++ sets 1 2 1 0 ++ jumps 0 (1 ∷ [])
    ++ use_var 0 1 ∷ use_var 1 1 ∷ define 0 3 1 ∷ define 1 2 1 ∷ [] ++ jumps 1 (1 ∷ []) ++ seal_all ∷ []

-- two parameters, and arguments in their order
pub on_the_edges : ((session swap).form.params 1 ≡ 2 ∷ 3 ∷ []) × ((session swap).form.args 0 0 ≡ 0 ∷ 1 ∷ []) × ((session swap).form.args 1 0 ≡ 3 ∷ 2 ∷ [])
on_the_edges = (refl, refl, refl)

-- Where the made values 0 and 1 hold 10 and 11, what the two uses find: what value 2 holds and variable 0 received, what value 3 holds and variable 1 received.
abbrev pub at_visit : List ℕ → List (ℕ × ℕ)
at_visit = finds ℕ (λ type. 0) (λ n x. 10 + x) (λ x. 77) (session swap)

pub first_visit : at_visit (0 ∷ []) ≡ (10, 10) ∷ (11, 11) ∷ []
first_visit = refl

pub second_visit : at_visit (0 ∷ 0 ∷ []) ≡ (11, 11) ∷ (10, 10) ∷ []
second_visit = refl

pub third_visit : at_visit (0 ∷ 0 ∷ 0 ∷ []) ≡ (10, 10) ∷ (11, 11) ∷ []
third_visit = refl

-- The fork. Block 0 goes to 1 or 2, both go to 3, which goes round or to 4. Variable 0 gets value 0 in block 1, value 2 in block 2, and value 7 in the loop,
-- between two uses. Variable 1 gets value 1 in block 1 and nothing in block 2, which uses it all the same.
abbrev pub fork : List Call
fork =
    blocks 5 ++ declare_var 0 2 ∷ declare_var 1 3 ∷ seal 0 ∷ []
    ++ jumps 0 (1 ∷ 2 ∷ []) ++ seal 1 ∷ seal 2 ∷ []
    ++ sets 0 2 0 1 ++ sets 1 3 1 1 ++ jumps 1 (3 ∷ [])
    ++ sets 0 2 2 2 ++ use_var 1 2 ∷ [] ++ jumps 2 (3 ∷ [])
    ++ use_var 0 3 ∷ use_var 1 3 ∷ [] ++ sets 0 2 7 3 ++ use_var 0 3 ∷ [] ++ jumps 3 (3 ∷ 4 ∷ [])
    ++ seal 3 ∷ seal 4 ∷ use_var 0 4 ∷ use_var 1 4 ∷ []

-- both variables keep a parameter where the paths meet
pub parameters_stay : (session fork).form.params 3 ≡ 5 ∷ 6 ∷ []
parameters_stay = refl

-- every destination that enters block 3 carries two arguments; the second from block 2 is an alias, of a zero
pub arguments_are_carried : ((session fork).form.args 1 0 ≡ 0 ∷ 1 ∷ []) × ((session fork).form.args 2 0 ≡ 2 ∷ 3 ∷ []) × ((session fork).form.args 3 0 ≡ 7 ∷ 6 ∷ [])
arguments_are_carried = (refl, refl, refl)

pub alias_of_a_zero : (session fork).form.target 3 ≡ 4
alias_of_a_zero = refl

-- call 24, the use in block 2, adds a zero to block 0
pub a_zero_is_added : (session fork).form.zeros ≡ (24, 0) ∷ []
a_zero_is_added = refl

-- At visit n a made value x holds 100 n + x; the zero of a type is 1000 and the type's number; an unset value holds 2000 and its number.
abbrev pub on_path : List ℕ → List (ℕ × ℕ)
on_path = finds ℕ (λ type. 1000 + type) (λ n x. 100 * n + x) (λ x. 2000 + x) (session fork)

pub never_set : on_path (1 ∷ []) ≡ (1003, 1003) ∷ []
never_set = refl

-- 0, 2, 3 and 0, 2, 3, 3: each use of the loop, the first two before the definition and the last after it
pub by_block_2 : on_path (1 ∷ 0 ∷ []) ≡ (102, 102) ∷ (1003, 1003) ∷ (207, 207) ∷ []
by_block_2 = refl

pub round_by_block_2 : on_path (1 ∷ 0 ∷ 0 ∷ []) ≡ (207, 207) ∷ (1003, 1003) ∷ (307, 307) ∷ []
round_by_block_2 = refl

-- 0, 1, 3, 3, 4
pub out_by_block_1 : on_path (0 ∷ 0 ∷ 0 ∷ 1 ∷ []) ≡ (307, 307) ∷ (101, 101) ∷ []
out_by_block_1 = refl

-- The counter. Block 0 goes to 1 with the first index, 1; block 1 goes round with the next, 4, or to 2. Its caller's parameter 0 holds the index, which it
-- gives to variable 0. Variable 1 gets value 2 in block 0 and value 5 in the loop.
abbrev pub counter : List Call
counter =
    blocks 3 ++ declare_var 0 2 ∷ declare_var 1 2 ∷ own_param 1 2 ∷ make_value 0 2 ∷ [] ++ sets 1 2 2 0
    ++ new_branch 0 ∷ new_dest 0 1 ∷ give_arg 0 1 0 ∷ add_pred 1 0 ∷ []
    ++ define 0 0 1 ∷ use_var 0 1 ∷ use_var 1 1 ∷ make_value 1 2 ∷ [] ++ sets 1 2 5 1
    ++ new_branch 1 ∷ new_dest 1 1 ∷ new_dest 1 2 ∷ give_arg 1 4 0 ∷ add_pred 1 1 ∷ add_pred 2 1 ∷ seal_all ∷ use_var 0 2 ∷ use_var 1 2 ∷ []

-- the caller's parameter stands before the builder's, and so do their arguments
pub index_first : ((session counter).form.params 1 ≡ 0 ∷ 3 ∷ []) × ((session counter).form.args 0 0 ≡ 1 ∷ 2 ∷ []) ×
    ((session counter).form.args 1 0 ≡ 4 ∷ 5 ∷ [])
index_first = (refl, refl, refl)

abbrev pub on_count : List ℕ → List (ℕ × ℕ)
on_count = finds ℕ (λ type. 1000 + type) (λ n x. 100 * n + x) (λ x. 2000 + x) (session counter)

-- the first index and the next, each with what variable 1 received
pub first_round : on_count (0 ∷ []) ≡ (1, 1) ∷ (2, 2) ∷ []
first_round = refl

pub second_round : on_count (0 ∷ 0 ∷ []) ≡ (104, 104) ∷ (105, 105) ∷ []
second_round = refl

-- and after the loop
pub counted_out : on_count (0 ∷ 0 ∷ 1 ∷ []) ≡ (104, 104) ∷ (205, 205) ∷ []
counted_out = refl
