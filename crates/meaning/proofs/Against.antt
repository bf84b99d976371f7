-- For each supposition of demand 3 a list of calls that does not meet it, with a path on which a use is wrong, or a destination that lacks an argument:
-- shown by computing. Assumes nothing.
use Prim.Native.Nat.{ℕ}
use mathlib.Core.Path.{◌≡◌, refl}
use mathlib.Core.List.{List, [], ◌∷◌, ◌++◌, map}
use Rattle.definition.specs.Session.{Call, session}
use Rattle.definition.specs.Calls.{declare_var, make_value, define, use_var, new_branch, new_dest, drop_pred, seal_all, own_param, blocks, sets, jumps}
use Rattle.meaning.specs.Trace.{finds}

-- A zero holds 0, an unset value 1, a made value 2.
abbrev pub null : ℕ → ℕ
null type = 0

abbrev pub unset : ℕ → ℕ
unset x = 1

abbrev pub fresh : ℕ → ℕ → ℕ
fresh n x = 2

-- what the uses find at the end of a path: what the answer holds, and what the variable received
abbrev pub found_on : List Call → List ℕ → List (ℕ × ℕ)
found_on cs = finds ℕ null fresh unset (session cs)

-- 1. Block 0 is not sealed: the answer is a parameter that nothing sets.
abbrev pub unsealed : List Call
unsealed = blocks 1 ++ declare_var 0 2 ∷ use_var 0 0 ∷ []

pub unset_parameter : found_on unsealed [] ≡ (1, 0) ∷ []
unset_parameter = refl

-- 2. Block 0 goes to itself: its one predecessor's value stands at its beginning, and the first time it is not made yet.
abbrev pub entered : List Call
entered = blocks 1 ++ declare_var 0 2 ∷ use_var 0 0 ∷ [] ++ sets 0 2 1 0 ++ jumps 0 (0 ∷ []) ++ seal_all ∷ []

pub not_made_yet : found_on entered [] ≡ (1, 0) ∷ []
not_made_yet = refl

-- 3. Block 0 goes to block 1, which is not told: there the variable counts as never set.
abbrev pub undeclared : List Call
undeclared = blocks 2 ++ declare_var 0 2 ∷ [] ++ sets 0 2 0 0 ++ new_branch 0 ∷ new_dest 0 1 ∷ seal_all ∷ use_var 0 1 ∷ []

pub zero_for_a_value : found_on undeclared (0 ∷ []) ≡ (0, 2) ∷ []
zero_for_a_value = refl

-- 4. Block 0 gives the variable a value of block 1, which makes it anew.
abbrev pub foreign : List Call
foreign = blocks 2 ++ declare_var 0 2 ∷ make_value 1 2 ∷ define 0 0 0 ∷ [] ++ jumps 0 (1 ∷ []) ++ seal_all ∷ use_var 0 1 ∷ []

pub made_anew : found_on foreign (0 ∷ []) ≡ (2, 1) ∷ []
made_anew = refl

-- 5. Block 1 has a caller's parameter, 0, for which no argument is given: the builder's argument takes its place, and the builder's parameter, 2, gets none.
abbrev pub short : List Call
short =
    blocks 2 ++ declare_var 0 2 ∷ own_param 1 2 ∷ [] ++ sets 0 2 1 0 ++ jumps 0 (1 ∷ []) ++ use_var 0 1 ∷ [] ++ sets 0 2 3 1 ++ jumps 1
    (1 ∷ []) ++ seal_all ∷ []

pub in_its_place : ((session short).form.params 1 ≡ 0 ∷ 2 ∷ []) × ((session short).form.args 0 0 ≡ 1 ∷ [])
in_its_place = (refl, refl)

pub never_brought : found_on short (0 ∷ []) ≡ (1, 2) ∷ []
never_brought = refl

-- What need not be supposed: a definition in block 0 after its branch was declared gets 20, also once the branch was removed.
abbrev pub late : List Call
late = blocks 2 ++ declare_var 0 2 ∷ make_value 0 2 ∷ [] ++ jumps 0 (1 ∷ []) ++ define 0 0 0 ∷ drop_pred 1 0 ∷ define 0 0 0 ∷ []

pub late_refused : map (λ d. d.code) (session late).done ≡ 0 ∷ 0 ∷ 0 ∷ 0 ∷ 0 ∷ 0 ∷ 0 ∷ 20 ∷ 0 ∷ 20 ∷ []
late_refused = refl

-- One argument for each parameter, 1: a parameter of an unsealed block has no arguments yet.
abbrev pub waiting : List Call
waiting = blocks 2 ++ declare_var 0 2 ∷ [] ++ jumps 0 (1 ∷ []) ++ use_var 0 1 ∷ []

pub none_yet : ((session waiting).form.params 1 ≡ 0 ∷ []) × ((session waiting).form.args 0 0 ≡ [])
none_yet = (refl, refl)

-- 3: a branch that is not declared carries none.
abbrev pub unfed : List Call
unfed =
    blocks 3 ++ declare_var 0 2 ∷ [] ++ sets 0 2 0 0 ++ jumps 0 (1 ∷ []) ++ use_var 0 1 ∷ [] ++ sets 0 2 2 1 ++ jumps 1 (1 ∷ [])
    ++ new_branch 2 ∷ new_dest 2 1 ∷ seal_all ∷ []

pub none_ever : ((session unfed).form.params 1 ≡ 1 ∷ []) × ((session unfed).form.args 1 0 ≡ 2 ∷ []) × ((session unfed).form.args 2 0 ≡ [])
none_ever = (refl, refl, refl)

-- 5: a caller's parameter for which none is given has none.
abbrev pub ungiven : List Call
ungiven = blocks 2 ++ own_param 1 0 ∷ [] ++ jumps 0 (1 ∷ []) ++ seal_all ∷ []

pub none_given : ((session ungiven).form.params 1 ≡ 0 ∷ []) × ((session ungiven).form.args 0 0 ≡ [])
none_given = (refl, refl)
