-- Lists with wide types: zeros in one step and in two. As in Starred one claim says all answers and every table that each leaves, proved by computation; what
-- is expected is what the crate itself left, with the rules that requests 04, 06, 07 and 09 add.
-- Assumes nothing.
use Rattle.std.specs.Prelude.{ℕ, ◌≡◌, refl, List, [], ◌∷◌, ◌++◌, map}
use Rattle.entity.specs.Types.{i64, type_count}
use Rattle.definition.specs.Base.{up_from}
use Rattle.definition.specs.Session.{Call, session}
use Rattle.definition.specs.Calls.{declare_var, make_value, define, use_var, new_branch, new_dest, add_pred, seal, seal_all, own_param}
use Rattle.definition.specs.Calls.{give_arg, mark_var, blocks, jumps}
use Rattle.definition.specs.Tables.{Tables, tables}

-- the numbers of the types I128, F16X8 and F32X4
abbrev i128 : ℕ
i128 = 6

abbrev f16x8 : ℕ
f16x8 = 21

abbrev f32x4 : ℕ
f32x4 = 23

pub cases : List (List Call)
cases =
    -- U. An I128 that block 0 never defines: the zero is 2, made from the I64 zero 1, and the parameter 0 is an alias of 2. The step 1 may be given to an I64
    -- variable and passed on as an argument; it isn't an I128. The I128 variable is marked: recorded are 0, and 2 once it is given, but not the step.
    (
    blocks 2 ++ declare_var 0 i128 ∷ declare_var 1 i64 ∷ mark_var 0 ∷ seal 0 ∷ use_var 0 0 ∷ use_var 0 0 ∷ []
    ++ define 0 1 0 ∷ define 1 2 0 ∷ define 1 1 0 ∷ define 0 2 0 ∷ own_param 1 i64 ∷ []
    ++ new_branch 0 ∷ new_dest 0 1 ∷ give_arg 0 1 0 ∷ add_pred 1 0 ∷ seal 1 ∷ use_var 0 1 ∷ use_var 1 1 ∷ []
    ) ∷
    -- V. Vectors of floats, two that wait and one in a loop: a scalar, then the vector. The seal of block 0 counts two zeros, and the log has a row for each.
    (
    blocks 2 ++ declare_var 0 f32x4 ∷ declare_var 1 f16x8 ∷ use_var 0 0 ∷ use_var 1 0 ∷ seal 0 ∷ use_var 0 1 ∷ [] ++ jumps 1 (1 ∷ []) ++ seal_all ∷ []
    ) ∷
    -- W. A zero of every type. The count of types is no type's number.
    (
    blocks 1 ++ map (λ t. declare_var t t) (up_from 0 25) ++ declare_var 25 type_count ∷ make_value 0 type_count ∷ own_param 0 type_count ∷ seal_all ∷ []
    ++ map (λ t. use_var t 0) (up_from 0 25)
    ) ∷
    []

pub expected : List Tables
expected =
    -- U
    record {
      counts = (2 ∷ 2 ∷ 4 ∷ 1 ∷ 1 ∷ []);
      answers = ((0, 0) ∷ (0, 1) ∷ (0, 0) ∷ (0, 1) ∷ (0, 0) ∷ (0, 0) ∷ (0, 2) ∷ (0, 0) ∷ (7, 0) ∷ (7, 0) ∷ (0, 1) ∷ (0, 2) ∷ (0, 3) ∷ (0, 0) ∷
          (0, 0) ∷ (0, 0) ∷ (0, 1) ∷ (0, 0) ∷ (0, 2) ∷ (0, 1) ∷ []);
      types = (6 ∷ 3 ∷ []);
      marks = (1 ∷ 0 ∷ []);
      values = ((1, 6, 0, 2) ∷ (2, 3, 0, 1) ∷ (2, 6, 0, 2) ∷ (3, 3, 1, 3) ∷ []);
      recorded = (1 ∷ 0 ∷ 1 ∷ 0 ∷ []);
      params = ([] ∷ (3 ∷ []) ∷ []);
      owns = (0 ∷ 1 ∷ []);
      branches = ((((1, (1 ∷ [])) ∷ []) ∷ []) ∷ [] ∷ []);
      preds = ([] ∷ (0 ∷ []) ∷ []);
      pending = ([] ∷ [] ∷ []);
      sealed = (1 ∷ 1 ∷ []);
      declared = (1 ∷ 0 ∷ []);
      last = ((3 ∷ 2 ∷ []) ∷ (3 ∷ 2 ∷ []) ∷ []);
      zeros = ((6, 0) ∷ []);
      placed = (0 ∷ []);
    } ∷
    -- V
    record {
      counts = (2 ∷ 2 ∷ 9 ∷ 0 ∷ 3 ∷ []);
      answers = ((0, 0) ∷ (0, 1) ∷ (0, 0) ∷ (0, 1) ∷ (0, 0) ∷ (0, 1) ∷ (0, 2) ∷ (0, 6) ∷ (0, 1) ∷ (0, 0) ∷ (0, 1) ∷ (0, 1) ∷ []);
      types = (23 ∷ 21 ∷ []);
      marks = (0 ∷ 0 ∷ []);
      values = ((1, 23, 0, 3) ∷ (1, 21, 0, 5) ∷ (2, 4, 0, 2) ∷ (2, 23, 0, 3) ∷ (2, 7, 0, 4) ∷ (2, 21, 0, 5) ∷ (1, 23, 1, 8) ∷ (2, 4, 1, 7) ∷
          (2, 23, 1, 8) ∷ []);
      recorded = (0 ∷ 0 ∷ 0 ∷ 0 ∷ 0 ∷ 0 ∷ 0 ∷ 0 ∷ 0 ∷ []);
      params = ([] ∷ [] ∷ []);
      owns = (0 ∷ 0 ∷ []);
      branches = ([] ∷ (((1, []) ∷ []) ∷ []) ∷ []);
      preds = ([] ∷ (1 ∷ []) ∷ []);
      pending = ([] ∷ [] ∷ []);
      sealed = (1 ∷ 1 ∷ []);
      declared = (0 ∷ 1 ∷ []);
      last = ((1 ∷ 2 ∷ []) ∷ (7 ∷ 0 ∷ []) ∷ []);
      zeros = ((6, 0) ∷ (6, 0) ∷ (11, 1) ∷ []);
      placed = (0 ∷ 1 ∷ []);
    } ∷
    -- W
    record {
      counts = (1 ∷ 25 ∷ 57 ∷ 0 ∷ 25 ∷ []);
      answers = ((0, 0) ∷ (0, 0) ∷ (0, 1) ∷ (0, 2) ∷ (0, 3) ∷ (0, 4) ∷ (0, 5) ∷ (0, 6) ∷ (0, 7) ∷ (0, 8) ∷ (0, 9) ∷ (0, 10) ∷ (0, 11) ∷ (0, 12) ∷
          (0, 13) ∷ (0, 14) ∷ (0, 15) ∷ (0, 16) ∷ (0, 17) ∷ (0, 18) ∷ (0, 19) ∷ (0, 20) ∷ (0, 21) ∷ (0, 22) ∷ (0, 23) ∷ (0, 24) ∷ (6, 0) ∷ (6, 0) ∷
          (6, 0) ∷ (0, 0) ∷ (0, 1) ∷ (0, 3) ∷ (0, 5) ∷ (0, 7) ∷ (0, 9) ∷ (0, 11) ∷ (0, 14) ∷ (0, 16) ∷ (0, 18) ∷ (0, 20) ∷ (0, 22) ∷ (0, 24) ∷
          (0, 26) ∷ (0, 28) ∷ (0, 30) ∷ (0, 32) ∷ (0, 34) ∷ (0, 36) ∷ (0, 38) ∷ (0, 41) ∷ (0, 44) ∷ (0, 47) ∷ (0, 50) ∷ (0, 53) ∷ (0, 56) ∷ []);
      types = (0 ∷ 1 ∷ 2 ∷ 3 ∷ 4 ∷ 5 ∷ 6 ∷ 7 ∷ 8 ∷ 9 ∷ 10 ∷ 11 ∷ 12 ∷ 13 ∷ 14 ∷ 15 ∷ 16 ∷ 17 ∷ 18 ∷ 19 ∷ 20 ∷ 21 ∷ 22 ∷ 23 ∷ 24 ∷ []);
      marks = (0 ∷ 0 ∷ 0 ∷ 0 ∷ 0 ∷ 0 ∷ 0 ∷ 0 ∷ 0 ∷ 0 ∷ 0 ∷ 0 ∷ 0 ∷ 0 ∷ 0 ∷ 0 ∷ 0 ∷ 0 ∷ 0 ∷ 0 ∷ 0 ∷ 0 ∷ 0 ∷ 0 ∷ 0 ∷ []);
      values = ((1, 0, 0, 1) ∷ (2, 0, 0, 1) ∷ (1, 1, 0, 3) ∷ (2, 1, 0, 3) ∷ (1, 2, 0, 5) ∷ (2, 2, 0, 5) ∷ (1, 3, 0, 7) ∷ (2, 3, 0, 7) ∷
          (1, 4, 0, 9) ∷ (2, 4, 0, 9) ∷ (1, 5, 0, 11) ∷ (2, 5, 0, 11) ∷ (1, 6, 0, 14) ∷ (2, 3, 0, 13) ∷ (2, 6, 0, 14) ∷ (1, 7, 0, 16) ∷
          (2, 7, 0, 16) ∷ (1, 8, 0, 18) ∷ (2, 8, 0, 18) ∷ (1, 9, 0, 20) ∷ (2, 9, 0, 20) ∷ (1, 10, 0, 22) ∷ (2, 10, 0, 22) ∷ (1, 11, 0, 24) ∷
          (2, 11, 0, 24) ∷ (1, 12, 0, 26) ∷ (2, 12, 0, 26) ∷ (1, 13, 0, 28) ∷ (2, 13, 0, 28) ∷ (1, 14, 0, 30) ∷ (2, 14, 0, 30) ∷ (1, 15, 0, 32) ∷
          (2, 15, 0, 32) ∷ (1, 16, 0, 34) ∷ (2, 16, 0, 34) ∷ (1, 17, 0, 36) ∷ (2, 17, 0, 36) ∷ (1, 18, 0, 38) ∷ (2, 18, 0, 38) ∷ (1, 19, 0, 41) ∷
          (2, 7, 0, 40) ∷ (2, 19, 0, 41) ∷ (1, 20, 0, 44) ∷ (2, 7, 0, 43) ∷ (2, 20, 0, 44) ∷ (1, 21, 0, 47) ∷ (2, 7, 0, 46) ∷ (2, 21, 0, 47) ∷
          (1, 22, 0, 50) ∷ (2, 4, 0, 49) ∷ (2, 22, 0, 50) ∷ (1, 23, 0, 53) ∷ (2, 4, 0, 52) ∷ (2, 23, 0, 53) ∷ (1, 24, 0, 56) ∷ (2, 5, 0, 55) ∷
          (2, 24, 0, 56) ∷ []);
      recorded = (0 ∷ 0 ∷ 0 ∷ 0 ∷ 0 ∷ 0 ∷ 0 ∷ 0 ∷ 0 ∷ 0 ∷ 0 ∷ 0 ∷ 0 ∷ 0 ∷ 0 ∷ 0 ∷ 0 ∷ 0 ∷ 0 ∷ 0 ∷ 0 ∷ 0 ∷ 0 ∷ 0 ∷ 0 ∷ 0 ∷ 0 ∷ 0 ∷ 0 ∷ 0 ∷ 0 ∷ 0 ∷ 0 ∷ 0 ∷
          0 ∷ 0 ∷ 0 ∷ 0 ∷ 0 ∷ 0 ∷ 0 ∷ 0 ∷ 0 ∷ 0 ∷ 0 ∷ 0 ∷ 0 ∷ 0 ∷ 0 ∷ 0 ∷ 0 ∷ 0 ∷ 0 ∷ 0 ∷ 0 ∷ 0 ∷ 0 ∷ []);
      params = ([] ∷ []);
      owns = (0 ∷ []);
      branches = ([] ∷ []);
      preds = ([] ∷ []);
      pending = ([] ∷ []);
      sealed = (1 ∷ []);
      declared = (0 ∷ []);
      last = ((1 ∷ 3 ∷ 5 ∷ 7 ∷ 9 ∷ 11 ∷ 13 ∷ 16 ∷ 18 ∷ 20 ∷ 22 ∷ 24 ∷ 26 ∷ 28 ∷ 30 ∷ 32 ∷ 34 ∷ 36 ∷ 38 ∷ 40 ∷ 43 ∷ 46 ∷ 49 ∷ 52 ∷ 55 ∷ []) ∷ []);
      zeros = ((30, 0) ∷ (31, 0) ∷ (32, 0) ∷ (33, 0) ∷ (34, 0) ∷ (35, 0) ∷ (36, 0) ∷ (37, 0) ∷ (38, 0) ∷ (39, 0) ∷ (40, 0) ∷ (41, 0) ∷ (42, 0) ∷
          (43, 0) ∷ (44, 0) ∷ (45, 0) ∷ (46, 0) ∷ (47, 0) ∷ (48, 0) ∷ (49, 0) ∷ (50, 0) ∷ (51, 0) ∷ (52, 0) ∷ (53, 0) ∷ (54, 0) ∷ []);
      placed = (0 ∷ []);
    } ∷
    []

pub wide : map (λ cs. tables (session cs)) cases ≡ expected
unfolding cases expected
wide = refl
