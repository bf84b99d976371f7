-- The calls by name, and small groups of them, for lists that people read.
-- Assumes nothing.
use Rattle.std.specs.Prelude.{ℕ, List, [], ◌∷◌, ◌++◌, map}
use Rattle.definition.specs.Base.{Block, Variable, Value, up_from}
use Rattle.definition.specs.Session.{Call}

-- a kind, and x, y, z
abbrev call : ℕ → ℕ → ℕ → ℕ → Call
call k x y z = record { kind = k; x = x; y = y; z = z }

abbrev pub declare_block : Block → Call
declare_block b = call 1 b 0 0

abbrev pub declare_var : Variable → ℕ → Call
declare_var v type = call 2 v type 0

abbrev pub make_value : Block → ℕ → Call
make_value b type = call 3 b type 0

-- v is given x in b
abbrev pub define : Variable → Value → Block → Call
define v x b = call 4 v x b

-- v is given the answer of call i in b
abbrev pub define_answer : Variable → ℕ → Block → Call
define_answer v i b = call 5 v i b

abbrev pub use_var : Variable → Block → Call
use_var v b = call 6 v b 0

abbrev pub new_branch : Block → Call
new_branch p = call 7 p 0 0

-- p's branch names b
abbrev pub new_dest : Block → Block → Call
new_dest p b = call 8 p b 0

-- p's branch is declared to b
abbrev pub add_pred : Block → Block → Call
add_pred b p = call 9 b p 0

abbrev pub drop_pred : Block → Block → Call
drop_pred b p = call 10 b p 0

abbrev pub seal : Block → Call
seal b = call 11 b 0 0

abbrev pub seal_all : Call
seal_all = call 12 0 0 0

-- a caller's parameter on b
abbrev pub own_param : Block → ℕ → Call
own_param b type = call 15 b type 0

-- x for the destination of p's branch at place i
abbrev pub give_arg : Block → Value → ℕ → Call
give_arg p x i = call 16 p x i

-- stack maps must have what v receives
abbrev pub mark_var : Variable → Call
mark_var v = call 17 v 0 0

-- n blocks
abbrev pub blocks : ℕ → List Call
blocks n = map declare_block (up_from 0 n)

-- in b a value of this type is made, which is x, and given to v
abbrev pub sets : Variable → ℕ → Value → Block → List Call
sets v type x b = make_value b type ∷ define v x b ∷ []

-- p branches to these blocks, and is declared to each
abbrev pub jumps : Block → List Block → List Call
jumps p ds = new_branch p ∷ map (new_dest p) ds ++ map (λ b. add_pred b p) ds
