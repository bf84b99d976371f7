-- Lists beyond the starred ones: parameters of the caller's own, and definitions that come late. As there one claim says all answers and every table that each
-- leaves, proved by computation; what is expected is what the crate itself left, with the rules that requests 04 and 09 add.
-- Assumes nothing.
use Rattle.std.specs.Prelude.{◌≡◌, refl, List, [], ◌∷◌, ◌++◌, map}
use Rattle.entity.specs.Types.{i8, i32, type_count}
use Rattle.definition.specs.Session.{Call, session}
use Rattle.definition.specs.Calls.{declare_var, make_value, define, define_answer, use_var, new_branch, new_dest, add_pred, drop_pred, seal, seal_all}
use Rattle.definition.specs.Calls.{own_param, give_arg, blocks, sets, jumps}
use Rattle.definition.specs.Tables.{Tables, tables}

pub cases : List (List Call)
cases =
    -- M. A loop that carries an index: block 1's own parameter 0 takes 1 from block 0 and 4 from the loop; variable 1 keeps the builder's parameter 3
    -- behind it.
    (
    blocks 3 ++ declare_var 0 i32 ∷ declare_var 1 i32 ∷ own_param 1 i32 ∷ make_value 0 i32 ∷ [] ++ sets 1 i32 2 0
    ++ new_branch 0 ∷ new_dest 0 1 ∷ give_arg 0 1 0 ∷ add_pred 1 0 ∷ []
    ++ define 0 0 1 ∷ use_var 0 1 ∷ use_var 1 1 ∷ make_value 1 i32 ∷ [] ++ sets 1 i32 5 1
    ++ new_branch 1 ∷ new_dest 1 1 ∷ new_dest 1 2 ∷ give_arg 1 4 0 ∷ add_pred 1 1 ∷ add_pred 2 1 ∷ seal_all ∷ use_var 0 2 ∷ use_var 1 2 ∷ []
    ) ∷
    -- N. No argument is given for block 1's own parameter 0: the builder's arguments stand in its place.
    (
    blocks 2 ++ declare_var 0 i32 ∷ own_param 1 i32 ∷ [] ++ sets 0 i32 1 0 ++ jumps 0 (1 ∷ []) ++ use_var 0 1 ∷ []
    ++ sets 0 i32 3 1 ++ jumps 1 (1 ∷ []) ++ seal_all ∷ []
    ) ∷
    -- O. A parameter of one's own gets 6 for an absent block or type, then 17 where the block has a pending use, a declared predecessor or is sealed; once
    -- the predecessor is removed it is accepted.
    (
    blocks 3 ++ declare_var 0 i32 ∷ own_param 3 i32 ∷ own_param 0 type_count ∷ use_var 0 0 ∷ own_param 0 i32 ∷ own_param 1 i32 ∷ own_param 1 i8 ∷ []
    ++ jumps 0 (1 ∷ []) ++ own_param 1 i32 ∷ own_param 0 type_count ∷ drop_pred 1 0 ∷ own_param 1 i32 ∷ seal 2 ∷ own_param 2 i32 ∷ own_param 2 type_count ∷ []
    ) ∷
    -- P. An argument gets 6 for an absent branch, value or destination, then 11 where the branch is declared, then 18 where the target has no own parameter
    -- left, also where it has one of the builder's, and whatever the type, then 7 for another type.
    (
    blocks 4 ++ declare_var 0 i32 ∷ own_param 1 i32 ∷ own_param 1 i8 ∷ use_var 0 3 ∷ []
    ++ new_branch 0 ∷ new_dest 0 1 ∷ new_dest 0 2 ∷ new_dest 0 3 ∷ make_value 2 i32 ∷ make_value 2 i8 ∷ []
    ++ give_arg 1 3 0 ∷ give_arg 0 5 0 ∷ give_arg 0 3 3 ∷ give_arg 0 4 0 ∷ give_arg 0 3 0 ∷ give_arg 0 3 0 ∷ give_arg 0 1 0 ∷ []
    ++ give_arg 0 0 0 ∷ give_arg 0 3 1 ∷ give_arg 0 4 1 ∷ give_arg 0 3 2 ∷ []
    ++ add_pred 2 0 ∷ give_arg 0 3 1 ∷ give_arg 0 9 1 ∷ drop_pred 2 0 ∷ give_arg 0 3 1 ∷ own_param 2 i32 ∷ give_arg 0 3 1 ∷ []
    ) ∷
    -- Q. A definition in block 0 gets 20 once its branch was declared, after 6 and 7, also once it was removed.
    (
    blocks 2 ++ declare_var 0 i32 ∷ declare_var 1 i8 ∷ make_value 0 i32 ∷ use_var 0 0 ∷ [] ++ jumps 0 (1 ∷ [])
    ++ define 0 0 0 ∷ define_answer 0 5 0 ∷ define 1 0 0 ∷ define 0 9 0 ∷ define_answer 1 4 0 ∷ drop_pred 1 0 ∷ define 0 0 0 ∷ define 0 0 1 ∷ []
    ) ∷
    -- R. The builder's parameter 2 of block 1 becomes another name of value 1 and leaves the list; the caller's parameter 0 before it stays.
    (
    blocks 2 ++ declare_var 0 i32 ∷ own_param 1 i32 ∷ [] ++ sets 0 i32 1 0
    ++ new_branch 0 ∷ new_dest 0 1 ∷ give_arg 0 1 0 ∷ add_pred 1 0 ∷ use_var 0 1 ∷ seal_all ∷ []
    ) ∷
    []

pub expected : List Tables
expected =
    -- M
    record {
      counts = (3 ∷ 2 ∷ 6 ∷ 5 ∷ 0 ∷ []);
      answers = ((0, 0) ∷ (0, 1) ∷ (0, 2) ∷ (0, 0) ∷ (0, 1) ∷ (0, 0) ∷ (0, 1) ∷ (0, 2) ∷ (0, 2) ∷ (0, 0) ∷ (0, 0) ∷ (0, 0) ∷ (0, 1) ∷ (0, 0) ∷
          (0, 0) ∷ (0, 3) ∷ (0, 4) ∷ (0, 5) ∷ (0, 5) ∷ (0, 1) ∷ (0, 0) ∷ (0, 1) ∷ (0, 0) ∷ (0, 2) ∷ (0, 1) ∷ (0, 0) ∷ (0, 0) ∷ (0, 5) ∷
          []);
      types = (2 ∷ 2 ∷ []);
      marks = (0 ∷ 0 ∷ []);
      values = ((3, 2, 1, 0) ∷ (0, 2, 0, 1) ∷ (0, 2, 0, 2) ∷ (1, 2, 1, 3) ∷ (0, 2, 1, 4) ∷ (0, 2, 1, 5) ∷ []);
      recorded = (0 ∷ 0 ∷ 0 ∷ 0 ∷ 0 ∷ 0 ∷ []);
      params = ([] ∷ (0 ∷ 3 ∷ []) ∷ [] ∷ []);
      owns = (0 ∷ 1 ∷ 0 ∷ []);
      branches = ((((1, (1 ∷ 2 ∷ [])) ∷ []) ∷ []) ∷ (((1, (4 ∷ 5 ∷ [])) ∷ (2, []) ∷ []) ∷ []) ∷ [] ∷ []);
      preds = ([] ∷ (0 ∷ 1 ∷ []) ∷ (1 ∷ []) ∷ []);
      pending = ([] ∷ [] ∷ [] ∷ []);
      sealed = (1 ∷ 1 ∷ 1 ∷ []);
      declared = (1 ∷ 1 ∷ 0 ∷ []);
      last = ((0 ∷ 3 ∷ []) ∷ (1 ∷ 6 ∷ []) ∷ (1 ∷ 6 ∷ []) ∷ []);
      zeros = [];
      placed = (0 ∷ 1 ∷ []);
    } ∷
    -- N
    record {
      counts = (2 ∷ 1 ∷ 4 ∷ 3 ∷ 0 ∷ []);
      answers = ((0, 0) ∷ (0, 1) ∷ (0, 0) ∷ (0, 0) ∷ (0, 1) ∷ (0, 1) ∷ (0, 0) ∷ (0, 0) ∷ (0, 1) ∷ (0, 2) ∷ (0, 3) ∷ (0, 3) ∷ (0, 1) ∷ (0, 0) ∷
          (0, 2) ∷ (0, 0) ∷ []);
      types = (2 ∷ []);
      marks = (0 ∷ []);
      values = ((3, 2, 1, 0) ∷ (0, 2, 0, 1) ∷ (1, 2, 1, 2) ∷ (0, 2, 1, 3) ∷ []);
      recorded = (0 ∷ 0 ∷ 0 ∷ 0 ∷ []);
      params = ([] ∷ (0 ∷ 2 ∷ []) ∷ []);
      owns = (0 ∷ 1 ∷ []);
      branches = ((((1, (1 ∷ [])) ∷ []) ∷ []) ∷ (((1, (3 ∷ [])) ∷ []) ∷ []) ∷ []);
      preds = ([] ∷ (0 ∷ 1 ∷ []) ∷ []);
      pending = ([] ∷ [] ∷ []);
      sealed = (1 ∷ 1 ∷ []);
      declared = (1 ∷ 1 ∷ []);
      last = ((2 ∷ []) ∷ (4 ∷ []) ∷ []);
      zeros = [];
      placed = (0 ∷ 1 ∷ []);
    } ∷
    -- O
    record {
      counts = (3 ∷ 1 ∷ 4 ∷ 3 ∷ 0 ∷ []);
      answers = ((0, 0) ∷ (0, 1) ∷ (0, 2) ∷ (0, 0) ∷ (6, 0) ∷ (6, 0) ∷ (0, 0) ∷ (17, 0) ∷ (0, 1) ∷ (0, 2) ∷ (0, 0) ∷ (0, 0) ∷ (0, 1) ∷ (17, 0) ∷
          (6, 0) ∷ (0, 0) ∷ (0, 3) ∷ (0, 0) ∷ (17, 0) ∷ (6, 0) ∷ []);
      types = (2 ∷ []);
      marks = (0 ∷ []);
      values = ((1, 2, 0, 0) ∷ (3, 2, 1, 1) ∷ (3, 0, 1, 2) ∷ (3, 2, 1, 3) ∷ []);
      recorded = (0 ∷ 0 ∷ 0 ∷ 0 ∷ []);
      params = ((0 ∷ []) ∷ (1 ∷ 2 ∷ 3 ∷ []) ∷ [] ∷ []);
      owns = (0 ∷ 3 ∷ 0 ∷ []);
      branches = ((((1, []) ∷ []) ∷ []) ∷ [] ∷ [] ∷ []);
      preds = ([] ∷ [] ∷ [] ∷ []);
      pending = ((0 ∷ []) ∷ [] ∷ [] ∷ []);
      sealed = (0 ∷ 0 ∷ 1 ∷ []);
      declared = (1 ∷ 0 ∷ 0 ∷ []);
      last = ((1 ∷ []) ∷ (0 ∷ []) ∷ (0 ∷ []) ∷ []);
      zeros = [];
      placed = (0 ∷ []);
    } ∷
    -- P
    record {
      counts = (4 ∷ 1 ∷ 6 ∷ 5 ∷ 0 ∷ []);
      answers = ((0, 0) ∷ (0, 1) ∷ (0, 2) ∷ (0, 3) ∷ (0, 0) ∷ (0, 0) ∷ (0, 1) ∷ (0, 2) ∷ (0, 0) ∷ (0, 0) ∷ (0, 1) ∷ (0, 2) ∷ (0, 3) ∷ (0, 4) ∷
          (6, 0) ∷ (6, 0) ∷ (6, 0) ∷ (7, 0) ∷ (0, 0) ∷ (7, 0) ∷ (0, 1) ∷ (18, 0) ∷ (18, 0) ∷ (18, 0) ∷ (18, 0) ∷ (0, 1) ∷ (11, 0) ∷ (6, 0) ∷
          (0, 0) ∷ (18, 0) ∷ (0, 5) ∷ (0, 0) ∷ []);
      types = (2 ∷ []);
      marks = (0 ∷ []);
      values = ((3, 2, 1, 0) ∷ (3, 0, 1, 1) ∷ (1, 2, 3, 2) ∷ (0, 2, 2, 3) ∷ (0, 0, 2, 4) ∷ (3, 2, 2, 5) ∷ []);
      recorded = (0 ∷ 0 ∷ 0 ∷ 0 ∷ 0 ∷ 0 ∷ []);
      params = ([] ∷ (0 ∷ 1 ∷ []) ∷ (5 ∷ []) ∷ (2 ∷ []) ∷ []);
      owns = (0 ∷ 2 ∷ 1 ∷ 0 ∷ []);
      branches = ((((1, (3 ∷ 1 ∷ [])) ∷ (2, (3 ∷ [])) ∷ (3, []) ∷ []) ∷ []) ∷ [] ∷ [] ∷ [] ∷ []);
      preds = ([] ∷ [] ∷ [] ∷ [] ∷ []);
      pending = ([] ∷ [] ∷ [] ∷ (0 ∷ []) ∷ []);
      sealed = (0 ∷ 0 ∷ 0 ∷ 0 ∷ []);
      declared = (1 ∷ 0 ∷ 0 ∷ 0 ∷ []);
      last = ((0 ∷ []) ∷ (0 ∷ []) ∷ (0 ∷ []) ∷ (3 ∷ []) ∷ []);
      zeros = [];
      placed = (0 ∷ 2 ∷ []);
    } ∷
    -- Q
    record {
      counts = (2 ∷ 2 ∷ 2 ∷ 1 ∷ 0 ∷ []);
      answers = ((0, 0) ∷ (0, 1) ∷ (0, 0) ∷ (0, 1) ∷ (0, 0) ∷ (0, 1) ∷ (0, 0) ∷ (0, 0) ∷ (0, 1) ∷ (20, 0) ∷ (20, 0) ∷ (7, 0) ∷ (6, 0) ∷ (6, 0) ∷
          (0, 0) ∷ (20, 0) ∷ (0, 0) ∷ []);
      types = (2 ∷ 0 ∷ []);
      marks = (0 ∷ 0 ∷ []);
      values = ((0, 2, 0, 0) ∷ (1, 2, 0, 1) ∷ []);
      recorded = (0 ∷ 0 ∷ []);
      params = ((1 ∷ []) ∷ [] ∷ []);
      owns = (0 ∷ 0 ∷ []);
      branches = ((((1, []) ∷ []) ∷ []) ∷ [] ∷ []);
      preds = ([] ∷ [] ∷ []);
      pending = ((0 ∷ []) ∷ [] ∷ []);
      sealed = (0 ∷ 0 ∷ []);
      declared = (1 ∷ 0 ∷ []);
      last = ((2 ∷ 0 ∷ []) ∷ (1 ∷ 0 ∷ []) ∷ []);
      zeros = [];
      placed = (0 ∷ []);
    } ∷
    -- R
    record {
      counts = (2 ∷ 1 ∷ 3 ∷ 2 ∷ 0 ∷ []);
      answers = ((0, 0) ∷ (0, 1) ∷ (0, 0) ∷ (0, 0) ∷ (0, 1) ∷ (0, 1) ∷ (0, 0) ∷ (0, 0) ∷ (0, 0) ∷ (0, 1) ∷ (0, 2) ∷ (0, 0) ∷ []);
      types = (2 ∷ []);
      marks = (0 ∷ []);
      values = ((3, 2, 1, 0) ∷ (0, 2, 0, 1) ∷ (1, 2, 1, 1) ∷ []);
      recorded = (0 ∷ 0 ∷ 0 ∷ []);
      params = ([] ∷ (0 ∷ []) ∷ []);
      owns = (0 ∷ 1 ∷ []);
      branches = ((((1, (1 ∷ [])) ∷ []) ∷ []) ∷ [] ∷ []);
      preds = ([] ∷ (0 ∷ []) ∷ []);
      pending = ([] ∷ [] ∷ []);
      sealed = (1 ∷ 1 ∷ []);
      declared = (1 ∷ 0 ∷ []);
      last = ((2 ∷ []) ∷ (3 ∷ []) ∷ []);
      zeros = [];
      placed = (0 ∷ []);
    } ∷
    []

pub carried : map (λ cs. tables (session cs)) cases ≡ expected
unfolding cases expected
carried = refl
