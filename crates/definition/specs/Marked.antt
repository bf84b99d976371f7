-- Lists with marks for stack maps. As with the starred ones one claim says all answers and every table that each leaves, proved by computation; what is
-- expected is what the crate itself left, with the rules that requests 04, 07 and 09 add.
-- Assumes nothing.
use Rattle.std.specs.Prelude.{◌≡◌, refl, List, [], ◌∷◌, ◌++◌, map}
use Rattle.entity.specs.Types.{i32}
use Rattle.definition.specs.Session.{Call, session}
use Rattle.definition.specs.Calls.{declare_var, define_answer, use_var, seal, seal_all, mark_var, blocks, sets, jumps}
use Rattle.definition.specs.Tables.{Tables, tables}

unfoldable pub cases : List (List Call)
cases =
    -- S. Variable 0 is marked, twice; 6 for an absent one, 19 for both once they have a definition. Recorded are 0 and 2, which it is given, its
    -- parameter 3, and 4, a parameter of variable 1 that it is given; not 1, which variable 1 is given and two walks copy.
    (
    blocks 4 ++ declare_var 0 i32 ∷ declare_var 1 i32 ∷ mark_var 0 ∷ mark_var 0 ∷ mark_var 2 ∷ [] ++ sets 0 i32 0 0 ++ sets 1 i32 1 0
    ++ mark_var 0 ∷ mark_var 1 ∷ [] ++ jumps 0 (1 ∷ 2 ∷ []) ++ jumps 1 (3 ∷ []) ++ sets 0 i32 2 2 ++ jumps 2 (3 ∷ [])
    ++ seal_all ∷ use_var 0 3 ∷ use_var 1 3 ∷ use_var 1 3 ∷ define_answer 0 31 3 ∷ []
    ) ∷
    -- T. Variable 0 is marked: its parameter 0 is recorded, its zero 1 is not, though variable 1 is given it; zero 3 is, since variable 0 is given it. 19 also
    -- where a pending use is all that there is; a variable without a definition is marked where others have one.
    (
    blocks 3 ++ declare_var 0 i32 ∷ declare_var 1 i32 ∷ declare_var 2 i32 ∷ declare_var 3 i32 ∷ mark_var 0 ∷ seal 0 ∷ use_var 0 0 ∷ use_var 1 0 ∷ []
    ++ define_answer 0 10 1 ∷ use_var 1 0 ∷ define_answer 1 9 2 ∷ use_var 2 2 ∷ mark_var 1 ∷ mark_var 2 ∷ mark_var 3 ∷ []
    ) ∷
    []

pub expected : List Tables
expected =
    -- S
    record {
      counts = (4 ∷ 2 ∷ 5 ∷ 3 ∷ 0 ∷ []);
      answers = ((0, 0) ∷ (0, 1) ∷ (0, 2) ∷ (0, 3) ∷ (0, 0) ∷ (0, 1) ∷ (0, 0) ∷ (0, 0) ∷ (6, 0) ∷ (0, 0) ∷ (0, 0) ∷ (0, 1) ∷ (0, 1) ∷ (19, 0) ∷
          (19, 0) ∷ (0, 0) ∷ (0, 0) ∷ (0, 1) ∷ (0, 1) ∷ (0, 1) ∷ (0, 1) ∷ (0, 0) ∷ (0, 1) ∷ (0, 2) ∷ (0, 2) ∷ (0, 2) ∷ (0, 0) ∷ (0, 2) ∷ (0, 0) ∷
          (0, 3) ∷ (0, 1) ∷ (0, 4) ∷ (0, 4) ∷ []);
      types = (2 ∷ 2 ∷ []);
      marks = (1 ∷ 0 ∷ []);
      values = ((0, 2, 0, 0) ∷ (0, 2, 0, 1) ∷ (0, 2, 2, 2) ∷ (1, 2, 3, 3) ∷ (1, 2, 3, 1) ∷ []);
      recorded = (1 ∷ 0 ∷ 1 ∷ 1 ∷ 1 ∷ []);
      params = ([] ∷ [] ∷ [] ∷ (3 ∷ []) ∷ []);
      owns = (0 ∷ 0 ∷ 0 ∷ 0 ∷ []);
      branches = ((((1, []) ∷ (2, []) ∷ []) ∷ []) ∷ (((3, (0 ∷ [])) ∷ []) ∷ []) ∷ (((3, (2 ∷ [])) ∷ []) ∷ []) ∷ [] ∷ []);
      preds = ([] ∷ (0 ∷ []) ∷ (0 ∷ []) ∷ (1 ∷ 2 ∷ []) ∷ []);
      pending = ([] ∷ [] ∷ [] ∷ [] ∷ []);
      sealed = (1 ∷ 1 ∷ 1 ∷ 1 ∷ []);
      declared = (1 ∷ 1 ∷ 1 ∷ 0 ∷ []);
      last = ((1 ∷ 2 ∷ []) ∷ (1 ∷ 2 ∷ []) ∷ (3 ∷ 2 ∷ []) ∷ (5 ∷ 5 ∷ []) ∷ []);
      zeros = [];
      placed = (0 ∷ 1 ∷ 2 ∷ []);
    } ∷
    -- T
    record {
      counts = (3 ∷ 4 ∷ 5 ∷ 0 ∷ 2 ∷ []);
      answers = ((0, 0) ∷ (0, 1) ∷ (0, 2) ∷ (0, 0) ∷ (0, 1) ∷ (0, 2) ∷ (0, 3) ∷ (0, 0) ∷ (0, 0) ∷ (0, 1) ∷ (0, 3) ∷ (0, 3) ∷ (0, 2) ∷ (0, 1) ∷
          (0, 4) ∷ (19, 0) ∷ (19, 0) ∷ (0, 3) ∷ []);
      types = (2 ∷ 2 ∷ 2 ∷ 2 ∷ []);
      marks = (1 ∷ 0 ∷ 0 ∷ 1 ∷ []);
      values = ((1, 2, 0, 1) ∷ (2, 2, 0, 1) ∷ (1, 2, 0, 3) ∷ (2, 2, 0, 3) ∷ (1, 2, 2, 4) ∷ []);
      recorded = (1 ∷ 0 ∷ 0 ∷ 1 ∷ 0 ∷ []);
      params = ([] ∷ [] ∷ (4 ∷ []) ∷ []);
      owns = (0 ∷ 0 ∷ 0 ∷ []);
      branches = ([] ∷ [] ∷ [] ∷ []);
      preds = ([] ∷ [] ∷ [] ∷ []);
      pending = ([] ∷ [] ∷ (2 ∷ []) ∷ []);
      sealed = (1 ∷ 0 ∷ 0 ∷ []);
      declared = (0 ∷ 0 ∷ 0 ∷ []);
      last = ((1 ∷ 3 ∷ 0 ∷ 0 ∷ []) ∷ (4 ∷ 0 ∷ 0 ∷ 0 ∷ []) ∷ (0 ∷ 2 ∷ 5 ∷ 0 ∷ []) ∷ []);
      zeros = ((9, 0) ∷ (10, 0) ∷ []);
      placed = (0 ∷ []);
    } ∷
    []

pub marked : map (λ cs. tables (session cs)) cases ≡ expected
unfolding cases expected
marked = refl
