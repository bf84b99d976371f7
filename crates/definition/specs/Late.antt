-- Definitions that come late, as one list with one claim: the code of each call, and which blocks are marked at its end. The claim is proved by computation;
-- the codes are those of the oracle's driver with the rule of docs/RULES.md, and examples/late.txt is the same list.
-- Assumes nothing.
use Rattle.std.specs.Prelude.{ℕ, ◌≡◌, refl, List, [], ◌∷◌, ◌++◌, map}
use Rattle.entity.specs.Types.{i8, i32}
use Rattle.definition.specs.Session.{Call, session}
use Rattle.definition.specs.Calls.{declare_var, make_value, define, define_answer, use_var, new_branch, new_dest, add_pred, drop_pred, seal_all}
use Rattle.definition.specs.Calls.{blocks}
use Rattle.definition.specs.Tables.{tables}

unfoldable pub calls : List Call
calls =
    -- an I32 variable 0, an I8 variable 1, values 0 and 1 of these types in block 0, value 2 in block 1; call 9 is a use in block 0
    blocks 3 ++ declare_var 0 i32 ∷ declare_var 1 i8 ∷ make_value 0 i32 ∷ make_value 0 i8 ∷ make_value 1 i32 ∷ define 0 0 0 ∷ use_var 0 0 ∷ []
    -- block 0 goes to block 1; declared to block 2 its branch is refused, and so not marked
    ++ new_branch 0 ∷ new_dest 0 1 ∷ add_pred 2 0 ∷ define 0 0 0 ∷ []
    -- once it is declared to block 1, block 0 takes no definition, but 7 and 6 come first; block 1 takes one
    ++ add_pred 1 0 ∷ define 0 0 0 ∷ define_answer 0 9 0 ∷ define 0 1 0 ∷ define_answer 1 9 0 ∷ define 0 9 0 ∷ define_answer 0 5 0 ∷ define 0 2 1 ∷ []
    -- nor where the branch was removed again
    ++ drop_pred 1 0 ∷ define 0 0 0 ∷ define_answer 0 9 0 ∷ add_pred 1 0 ∷ []
    -- nor does block 1, once it is declared that it goes to itself
    ++ new_branch 1 ∷ new_dest 1 1 ∷ new_dest 1 2 ∷ add_pred 1 1 ∷ define 0 0 1 ∷ add_pred 2 1 ∷ seal_all ∷ use_var 0 2 ∷ []

pub codes : List ℕ
codes =
    0 ∷ 0 ∷ 0 ∷ 0 ∷ 0 ∷ 0 ∷ 0 ∷ 0 ∷ 0 ∷ 0 ∷ []
    ++ 0 ∷ 0 ∷ 13 ∷ 0 ∷ []
    ++ 0 ∷ 20 ∷ 20 ∷ 7 ∷ 7 ∷ 6 ∷ 6 ∷ 0 ∷ []
    ++ 0 ∷ 20 ∷ 20 ∷ 0 ∷ []
    ++ 0 ∷ 0 ∷ 0 ∷ 0 ∷ 20 ∷ 0 ∷ 0 ∷ 0 ∷ []

pub late : map (λ a. a.0) (tables (session calls)).answers ≡ codes
unfolding calls codes
late = refl

pub marked : (tables (session calls)).declared ≡ 1 ∷ 1 ∷ 0 ∷ []
unfolding calls
marked = refl
