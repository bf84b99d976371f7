-- The twelve starred cases of docs/RULES.md as one list with one claim: all answers and every table that each leaves. The claim is proved by computation.
-- What is expected is what a run of the crate gave: its own ssa.rs, behind a driver that makes blocks, values and branches, and tests our rules before it
-- calls the crate (compare/README.md). So part of it is the crate's own, and part rests on our rules:
-- - The crate's own: the answers of kinds 6 (the value), 11 and 12 (how many zeros it reported); the values, their numbers, types and alias targets, which of
--   them are parameters and zeros, and in which block; parameters, arguments, predecessors, pending variables, sealed marks, last definitions; of the zero
--   log the blocks.
-- - Read off the crate's tables by the driver: the answers of kinds 3 (the value's number), 9 (how many predecessors there are) and 10 (the place).
-- - Our rules': the answers of kinds 1, 2, 4, 7 and 8; every code but 0 (12 in H, 8 in L); blocks, variables and their types, made values and their blocks,
--   branches and the blocks that they name; of the zero log the calls; the order of blocks placed (the crate places a block only where it adds a zero to it,
--   and in these cases such a block is placed before).
-- Assumes nothing.
use Rattle.std.specs.Prelude.{◌≡◌, refl, List, [], ◌∷◌, ◌++◌, map}
use Rattle.entity.specs.Types.{i32}
use Rattle.definition.specs.Session.{Call, session}
use Rattle.definition.specs.Calls.{declare_var, define, use_var, drop_pred, seal, seal_all, blocks, sets, jumps}
use Rattle.definition.specs.Tables.{Tables, tables}

unfoldable pub cases : List (List Call)
cases =
    -- A. Sealed block 0, use: value 0 is a parameter, aliased to zero 1; answer 1. A second use answers 0.
    (
    blocks 1 ++ declare_var 0 i32 ∷ seal 0 ∷ use_var 0 0 ∷ use_var 0 0 ∷ []
    ) ∷
    -- B. Block 0 unsealed, use: answer 0. Sealing then answers 1.
    (
    blocks 1 ++ declare_var 0 i32 ∷ use_var 0 0 ∷ seal 0 ∷ []
    ) ∷
    -- C. Diamond 0 to 1, 2 to 3; values 0 in 1 and 1 in 2: use in 3 answers 2, arguments [0] and [1].
    (
    blocks 4 ++ declare_var 0 i32 ∷ [] ++ sets 0 i32 0 1 ++ sets 0 i32 1 2 ++ jumps 0 (1 ∷ 2 ∷ [])
    ++ jumps 1 (3 ∷ []) ++ jumps 2 (3 ∷ []) ++ seal_all ∷ use_var 0 3 ∷ []
    ) ∷
    -- D. Value 0 defined in 0, value 1 in block 1: answer 2, arguments [1] and [0]; block 2 now records 0.
    (
    blocks 4 ++ declare_var 0 i32 ∷ [] ++ sets 0 i32 0 0 ++ sets 0 i32 1 1 ++ jumps 0 (1 ∷ 2 ∷ [])
    ++ jumps 1 (3 ∷ []) ++ jumps 2 (3 ∷ []) ++ seal_all ∷ use_var 0 3 ∷ []
    ) ∷
    -- E. Value 0 in block 0 only: use in 3 answers 0, a second answers 1, an alias of 0. No arguments.
    (
    blocks 4 ++ declare_var 0 i32 ∷ [] ++ sets 0 i32 0 0 ++ jumps 0 (1 ∷ 2 ∷ []) ++ jumps 1 (3 ∷ [])
    ++ jumps 2 (3 ∷ []) ++ seal_all ∷ use_var 0 3 ∷ use_var 0 3 ∷ []
    ) ∷
    -- F. Loop: 0 defines value 0; 1 unsealed, its use answers 1; 1 branches to itself; sealing 1 aliases 1 to 0.
    (
    blocks 2 ++ declare_var 0 i32 ∷ [] ++ sets 0 i32 0 0 ++ jumps 0 (1 ∷ []) ++ seal 0 ∷ use_var 0 1 ∷ []
    ++ jumps 1 (1 ∷ []) ++ seal 1 ∷ []
    ) ∷
    -- G. As F, but 1 then defines value 2: parameter 1 stays; arguments [0] and [2].
    (
    blocks 2 ++ declare_var 0 i32 ∷ [] ++ sets 0 i32 0 0 ++ jumps 0 (1 ∷ []) ++ seal 0 ∷ use_var 0 1 ∷ []
    ++ sets 0 i32 2 1 ++ jumps 1 (1 ∷ []) ++ seal 1 ∷ []
    ) ∷
    -- H. Block 0's branch names 1 twice; block 2 also enters 1; values 0 in 0, 1 in 2: answer 2; both of 0's destinations hold [0],
    -- 2's holds [1]. Declaring 0's branch to 1 a second time gets 12.
    (
    blocks 3 ++ declare_var 0 i32 ∷ [] ++ sets 0 i32 0 0 ++ sets 0 i32 1 2 ++ jumps 0 (1 ∷ 1 ∷ [])
    ++ jumps 2 (1 ∷ []) ++ seal_all ∷ use_var 0 1 ∷ []
    ) ∷
    -- I. Blocks 1 and 2 each the other's single predecessor, use in 1: parameter 0 on 1, zero 1 there, answer 1.
    (
    blocks 3 ++ declare_var 0 i32 ∷ [] ++ jumps 1 (2 ∷ []) ++ jumps 2 (1 ∷ []) ++ seal_all ∷ use_var 0 1 ∷ []
    ) ∷
    -- J. Variables 0, 1 given values 0, 1 in block 0; unsealed 1 uses both (2, 3), swaps them, loops: arguments [0, 1] and [3, 2].
    (
    blocks 2 ++ declare_var 0 i32 ∷ declare_var 1 i32 ∷ [] ++ sets 0 i32 0 0 ++ sets 1 i32 1 0 ++ jumps 0 (1 ∷ [])
    ++ seal 0 ∷ use_var 0 1 ∷ use_var 1 1 ∷ define 0 3 1 ∷ define 1 2 1 ∷ [] ++ jumps 1 (1 ∷ [])
    ++ seal 1 ∷ []
    ) ∷
    -- K. Predecessors A, B, C; remove A: C, B.
    (
    blocks 4 ++ declare_var 0 i32 ∷ [] ++ jumps 0 (3 ∷ []) ++ jumps 1 (3 ∷ []) ++ jumps 2 (3 ∷ [])
    ++ drop_pred 3 0 ∷ []
    ) ∷
    -- L. Seal twice: second answers code 8.
    (
    blocks 1 ++ declare_var 0 i32 ∷ seal 0 ∷ seal 0 ∷ []
    ) ∷
    []

pub expected : List Tables
expected =
    -- A
    record {
      counts = (1 ∷ 1 ∷ 2 ∷ 0 ∷ 1 ∷ []);
      answers = ((0, 0) ∷ (0, 0) ∷ (0, 0) ∷ (0, 1) ∷ (0, 0) ∷ []);
      types = (2 ∷ []);
      marks = (0 ∷ []);
      values = ((1, 2, 0, 1) ∷ (2, 2, 0, 1) ∷ []);
      recorded = (0 ∷ 0 ∷ []);
      params = ([] ∷ []);
      owns = (0 ∷ []);
      branches = ([] ∷ []);
      preds = ([] ∷ []);
      pending = ([] ∷ []);
      sealed = (1 ∷ []);
      declared = (0 ∷ []);
      last = ((1 ∷ []) ∷ []);
      zeros = ((3, 0) ∷ []);
      placed = (0 ∷ []);
    } ∷
    -- B
    record {
      counts = (1 ∷ 1 ∷ 2 ∷ 0 ∷ 1 ∷ []);
      answers = ((0, 0) ∷ (0, 0) ∷ (0, 0) ∷ (0, 1) ∷ []);
      types = (2 ∷ []);
      marks = (0 ∷ []);
      values = ((1, 2, 0, 1) ∷ (2, 2, 0, 1) ∷ []);
      recorded = (0 ∷ 0 ∷ []);
      params = ([] ∷ []);
      owns = (0 ∷ []);
      branches = ([] ∷ []);
      preds = ([] ∷ []);
      pending = ([] ∷ []);
      sealed = (1 ∷ []);
      declared = (0 ∷ []);
      last = ((1 ∷ []) ∷ []);
      zeros = ((3, 0) ∷ []);
      placed = (0 ∷ []);
    } ∷
    -- C
    record {
      counts = (4 ∷ 1 ∷ 3 ∷ 2 ∷ 0 ∷ []);
      answers = ((0, 0) ∷ (0, 1) ∷ (0, 2) ∷ (0, 3) ∷ (0, 0) ∷ (0, 0) ∷ (0, 0) ∷ (0, 1) ∷ (0, 1) ∷ (0, 0) ∷ (0, 0) ∷ (0, 1) ∷
          (0, 1) ∷ (0, 1) ∷ (0, 1) ∷ (0, 0) ∷ (0, 1) ∷ (0, 2) ∷ (0, 0) ∷ (0, 2) ∷ (0, 0) ∷ (0, 2) ∷ []);
      types = (2 ∷ []);
      marks = (0 ∷ []);
      values = ((0, 2, 1, 0) ∷ (0, 2, 2, 1) ∷ (1, 2, 3, 2) ∷ []);
      recorded = (0 ∷ 0 ∷ 0 ∷ []);
      params = ([] ∷ [] ∷ [] ∷ (2 ∷ []) ∷ []);
      owns = (0 ∷ 0 ∷ 0 ∷ 0 ∷ []);
      branches = ((((1, []) ∷ (2, []) ∷ []) ∷ []) ∷ (((3, (0 ∷ [])) ∷ []) ∷ []) ∷ (((3, (1 ∷ [])) ∷ []) ∷ []) ∷ [] ∷ []);
      preds = ([] ∷ (0 ∷ []) ∷ (0 ∷ []) ∷ (1 ∷ 2 ∷ []) ∷ []);
      pending = ([] ∷ [] ∷ [] ∷ [] ∷ []);
      sealed = (1 ∷ 1 ∷ 1 ∷ 1 ∷ []);
      declared = (1 ∷ 1 ∷ 1 ∷ 0 ∷ []);
      last = ((0 ∷ []) ∷ (1 ∷ []) ∷ (2 ∷ []) ∷ (3 ∷ []) ∷ []);
      zeros = [];
      placed = (0 ∷ 1 ∷ 2 ∷ []);
    } ∷
    -- D
    record {
      counts = (4 ∷ 1 ∷ 3 ∷ 2 ∷ 0 ∷ []);
      answers = ((0, 0) ∷ (0, 1) ∷ (0, 2) ∷ (0, 3) ∷ (0, 0) ∷ (0, 0) ∷ (0, 0) ∷ (0, 1) ∷ (0, 1) ∷ (0, 0) ∷ (0, 0) ∷ (0, 1) ∷
          (0, 1) ∷ (0, 1) ∷ (0, 1) ∷ (0, 0) ∷ (0, 1) ∷ (0, 2) ∷ (0, 0) ∷ (0, 2) ∷ (0, 0) ∷ (0, 2) ∷ []);
      types = (2 ∷ []);
      marks = (0 ∷ []);
      values = ((0, 2, 0, 0) ∷ (0, 2, 1, 1) ∷ (1, 2, 3, 2) ∷ []);
      recorded = (0 ∷ 0 ∷ 0 ∷ []);
      params = ([] ∷ [] ∷ [] ∷ (2 ∷ []) ∷ []);
      owns = (0 ∷ 0 ∷ 0 ∷ 0 ∷ []);
      branches = ((((1, []) ∷ (2, []) ∷ []) ∷ []) ∷ (((3, (1 ∷ [])) ∷ []) ∷ []) ∷ (((3, (0 ∷ [])) ∷ []) ∷ []) ∷ [] ∷ []);
      preds = ([] ∷ (0 ∷ []) ∷ (0 ∷ []) ∷ (1 ∷ 2 ∷ []) ∷ []);
      pending = ([] ∷ [] ∷ [] ∷ [] ∷ []);
      sealed = (1 ∷ 1 ∷ 1 ∷ 1 ∷ []);
      declared = (1 ∷ 1 ∷ 1 ∷ 0 ∷ []);
      last = ((1 ∷ []) ∷ (2 ∷ []) ∷ (1 ∷ []) ∷ (3 ∷ []) ∷ []);
      zeros = [];
      placed = (0 ∷ 1 ∷ 2 ∷ []);
    } ∷
    -- E
    record {
      counts = (4 ∷ 1 ∷ 2 ∷ 1 ∷ 0 ∷ []);
      answers = ((0, 0) ∷ (0, 1) ∷ (0, 2) ∷ (0, 3) ∷ (0, 0) ∷ (0, 0) ∷ (0, 0) ∷ (0, 0) ∷ (0, 0) ∷ (0, 1) ∷ (0, 1) ∷ (0, 1) ∷
          (0, 1) ∷ (0, 0) ∷ (0, 1) ∷ (0, 2) ∷ (0, 0) ∷ (0, 2) ∷ (0, 0) ∷ (0, 0) ∷ (0, 1) ∷ []);
      types = (2 ∷ []);
      marks = (0 ∷ []);
      values = ((0, 2, 0, 0) ∷ (1, 2, 3, 0) ∷ []);
      recorded = (0 ∷ 0 ∷ []);
      params = ([] ∷ [] ∷ [] ∷ [] ∷ []);
      owns = (0 ∷ 0 ∷ 0 ∷ 0 ∷ []);
      branches = ((((1, []) ∷ (2, []) ∷ []) ∷ []) ∷ (((3, []) ∷ []) ∷ []) ∷ (((3, []) ∷ []) ∷ []) ∷ [] ∷ []);
      preds = ([] ∷ (0 ∷ []) ∷ (0 ∷ []) ∷ (1 ∷ 2 ∷ []) ∷ []);
      pending = ([] ∷ [] ∷ [] ∷ [] ∷ []);
      sealed = (1 ∷ 1 ∷ 1 ∷ 1 ∷ []);
      declared = (1 ∷ 1 ∷ 1 ∷ 0 ∷ []);
      last = ((1 ∷ []) ∷ (1 ∷ []) ∷ (1 ∷ []) ∷ (2 ∷ []) ∷ []);
      zeros = [];
      placed = (0 ∷ 1 ∷ 2 ∷ []);
    } ∷
    -- F
    record {
      counts = (2 ∷ 1 ∷ 2 ∷ 1 ∷ 0 ∷ []);
      answers = ((0, 0) ∷ (0, 1) ∷ (0, 0) ∷ (0, 0) ∷ (0, 0) ∷ (0, 0) ∷ (0, 0) ∷ (0, 1) ∷ (0, 0) ∷ (0, 1) ∷ (0, 1) ∷ (0, 0) ∷
          (0, 2) ∷ (0, 0) ∷ []);
      types = (2 ∷ []);
      marks = (0 ∷ []);
      values = ((0, 2, 0, 0) ∷ (1, 2, 1, 0) ∷ []);
      recorded = (0 ∷ 0 ∷ []);
      params = ([] ∷ [] ∷ []);
      owns = (0 ∷ 0 ∷ []);
      branches = ((((1, []) ∷ []) ∷ []) ∷ (((1, []) ∷ []) ∷ []) ∷ []);
      preds = ([] ∷ (0 ∷ 1 ∷ []) ∷ []);
      pending = ([] ∷ [] ∷ []);
      sealed = (1 ∷ 1 ∷ []);
      declared = (1 ∷ 1 ∷ []);
      last = ((1 ∷ []) ∷ (2 ∷ []) ∷ []);
      zeros = [];
      placed = (0 ∷ 1 ∷ []);
    } ∷
    -- G
    record {
      counts = (2 ∷ 1 ∷ 3 ∷ 2 ∷ 0 ∷ []);
      answers = ((0, 0) ∷ (0, 1) ∷ (0, 0) ∷ (0, 0) ∷ (0, 0) ∷ (0, 0) ∷ (0, 0) ∷ (0, 1) ∷ (0, 0) ∷ (0, 1) ∷ (0, 2) ∷ (0, 2) ∷
          (0, 1) ∷ (0, 0) ∷ (0, 2) ∷ (0, 0) ∷ []);
      types = (2 ∷ []);
      marks = (0 ∷ []);
      values = ((0, 2, 0, 0) ∷ (1, 2, 1, 1) ∷ (0, 2, 1, 2) ∷ []);
      recorded = (0 ∷ 0 ∷ 0 ∷ []);
      params = ([] ∷ (1 ∷ []) ∷ []);
      owns = (0 ∷ 0 ∷ []);
      branches = ((((1, (0 ∷ [])) ∷ []) ∷ []) ∷ (((1, (2 ∷ [])) ∷ []) ∷ []) ∷ []);
      preds = ([] ∷ (0 ∷ 1 ∷ []) ∷ []);
      pending = ([] ∷ [] ∷ []);
      sealed = (1 ∷ 1 ∷ []);
      declared = (1 ∷ 1 ∷ []);
      last = ((1 ∷ []) ∷ (3 ∷ []) ∷ []);
      zeros = [];
      placed = (0 ∷ 1 ∷ []);
    } ∷
    -- H
    record {
      counts = (3 ∷ 1 ∷ 3 ∷ 2 ∷ 0 ∷ []);
      answers = ((0, 0) ∷ (0, 1) ∷ (0, 2) ∷ (0, 0) ∷ (0, 0) ∷ (0, 0) ∷ (0, 1) ∷ (0, 1) ∷ (0, 0) ∷ (0, 0) ∷ (0, 1) ∷ (0, 1) ∷
          (12, 0) ∷ (0, 2) ∷ (0, 0) ∷ (0, 2) ∷ (0, 0) ∷ (0, 2) ∷ []);
      types = (2 ∷ []);
      marks = (0 ∷ []);
      values = ((0, 2, 0, 0) ∷ (0, 2, 2, 1) ∷ (1, 2, 1, 2) ∷ []);
      recorded = (0 ∷ 0 ∷ 0 ∷ []);
      params = ([] ∷ (2 ∷ []) ∷ [] ∷ []);
      owns = (0 ∷ 0 ∷ 0 ∷ []);
      branches = ((((1, (0 ∷ [])) ∷ (1, (0 ∷ [])) ∷ []) ∷ []) ∷ [] ∷ (((1, (1 ∷ [])) ∷ []) ∷ []) ∷ []);
      preds = ([] ∷ (0 ∷ 2 ∷ []) ∷ [] ∷ []);
      pending = ([] ∷ [] ∷ [] ∷ []);
      sealed = (1 ∷ 1 ∷ 1 ∷ []);
      declared = (1 ∷ 0 ∷ 1 ∷ []);
      last = ((1 ∷ []) ∷ (3 ∷ []) ∷ (2 ∷ []) ∷ []);
      zeros = [];
      placed = (0 ∷ 2 ∷ []);
    } ∷
    -- I
    record {
      counts = (3 ∷ 1 ∷ 2 ∷ 0 ∷ 1 ∷ []);
      answers = ((0, 0) ∷ (0, 1) ∷ (0, 2) ∷ (0, 0) ∷ (0, 1) ∷ (0, 0) ∷ (0, 1) ∷ (0, 2) ∷ (0, 0) ∷ (0, 1) ∷ (0, 0) ∷ (0, 1) ∷
          []);
      types = (2 ∷ []);
      marks = (0 ∷ []);
      values = ((1, 2, 1, 1) ∷ (2, 2, 1, 1) ∷ []);
      recorded = (0 ∷ 0 ∷ []);
      params = ([] ∷ [] ∷ [] ∷ []);
      owns = (0 ∷ 0 ∷ 0 ∷ []);
      branches = ([] ∷ (((2, []) ∷ []) ∷ []) ∷ (((1, []) ∷ []) ∷ []) ∷ []);
      preds = ([] ∷ (2 ∷ []) ∷ (1 ∷ []) ∷ []);
      pending = ([] ∷ [] ∷ [] ∷ []);
      sealed = (1 ∷ 1 ∷ 1 ∷ []);
      declared = (0 ∷ 1 ∷ 1 ∷ []);
      last = ((0 ∷ []) ∷ (1 ∷ []) ∷ (1 ∷ []) ∷ []);
      zeros = ((11, 1) ∷ []);
      placed = (0 ∷ 1 ∷ 2 ∷ []);
    } ∷
    -- J
    record {
      counts = (2 ∷ 2 ∷ 4 ∷ 2 ∷ 0 ∷ []);
      answers = ((0, 0) ∷ (0, 1) ∷ (0, 0) ∷ (0, 1) ∷ (0, 0) ∷ (0, 0) ∷ (0, 1) ∷ (0, 1) ∷ (0, 0) ∷ (0, 0) ∷ (0, 1) ∷ (0, 0) ∷
          (0, 2) ∷ (0, 3) ∷ (0, 3) ∷ (0, 2) ∷ (0, 1) ∷ (0, 0) ∷ (0, 2) ∷ (0, 0) ∷ []);
      types = (2 ∷ 2 ∷ []);
      marks = (0 ∷ 0 ∷ []);
      values = ((0, 2, 0, 0) ∷ (0, 2, 0, 1) ∷ (1, 2, 1, 2) ∷ (1, 2, 1, 3) ∷ []);
      recorded = (0 ∷ 0 ∷ 0 ∷ 0 ∷ []);
      params = ([] ∷ (2 ∷ 3 ∷ []) ∷ []);
      owns = (0 ∷ 0 ∷ []);
      branches = ((((1, (0 ∷ 1 ∷ [])) ∷ []) ∷ []) ∷ (((1, (3 ∷ 2 ∷ [])) ∷ []) ∷ []) ∷ []);
      preds = ([] ∷ (0 ∷ 1 ∷ []) ∷ []);
      pending = ([] ∷ [] ∷ []);
      sealed = (1 ∷ 1 ∷ []);
      declared = (1 ∷ 1 ∷ []);
      last = ((1 ∷ 2 ∷ []) ∷ (4 ∷ 3 ∷ []) ∷ []);
      zeros = [];
      placed = (0 ∷ 1 ∷ []);
    } ∷
    -- K
    record {
      counts = (4 ∷ 1 ∷ 0 ∷ 0 ∷ 0 ∷ []);
      answers = ((0, 0) ∷ (0, 1) ∷ (0, 2) ∷ (0, 3) ∷ (0, 0) ∷ (0, 0) ∷ (0, 0) ∷ (0, 1) ∷ (0, 1) ∷ (0, 0) ∷ (0, 2) ∷ (0, 2) ∷
          (0, 0) ∷ (0, 3) ∷ (0, 0) ∷ []);
      types = (2 ∷ []);
      marks = (0 ∷ []);
      values = [];
      recorded = [];
      params = ([] ∷ [] ∷ [] ∷ [] ∷ []);
      owns = (0 ∷ 0 ∷ 0 ∷ 0 ∷ []);
      branches = ((((3, []) ∷ []) ∷ []) ∷ (((3, []) ∷ []) ∷ []) ∷ (((3, []) ∷ []) ∷ []) ∷ [] ∷ []);
      preds = ([] ∷ [] ∷ [] ∷ (2 ∷ 1 ∷ []) ∷ []);
      pending = ([] ∷ [] ∷ [] ∷ [] ∷ []);
      sealed = (0 ∷ 0 ∷ 0 ∷ 0 ∷ []);
      declared = (1 ∷ 1 ∷ 1 ∷ 0 ∷ []);
      last = ((0 ∷ []) ∷ (0 ∷ []) ∷ (0 ∷ []) ∷ (0 ∷ []) ∷ []);
      zeros = [];
      placed = (0 ∷ 1 ∷ 2 ∷ []);
    } ∷
    -- L
    record {
      counts = (1 ∷ 1 ∷ 0 ∷ 0 ∷ 0 ∷ []);
      answers = ((0, 0) ∷ (0, 0) ∷ (0, 0) ∷ (8, 0) ∷ []);
      types = (2 ∷ []);
      marks = (0 ∷ []);
      values = [];
      recorded = [];
      params = ([] ∷ []);
      owns = (0 ∷ []);
      branches = ([] ∷ []);
      preds = ([] ∷ []);
      pending = ([] ∷ []);
      sealed = (1 ∷ []);
      declared = (0 ∷ []);
      last = ((0 ∷ []) ∷ []);
      zeros = [];
      placed = (0 ∷ []);
    } ∷
    []

pub starred : map (λ cs. tables (session cs)) cases ≡ expected
unfolding cases expected
starred = refl
