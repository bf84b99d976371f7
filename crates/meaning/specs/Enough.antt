-- The definition computes with three bounds: on the depth of reading, on the length of a walk, on the links of a chain of aliases. Assumes nothing.
use Rattle.std.specs.Prelude.{ℕ, suc, ◌<◌, ◌≤◌, ◌≡◌, []}
use Rattle.definition.specs.Base.{Block, Variable, Value}
use Rattle.definition.specs.Form.{Graph, Form}
use Rattle.definition.specs.Read.{follow, resolve, walk, fill, read, depth}

-- No bound is ever met: with a greater one the result is the same.
pub record Enough (g : Graph) (s : Form) : Type 0 where
  -- reading a variable in a block, and at the predecessors of a block whose parameter x is settled
  pub reads : (v : Variable) (b : Block) (n : ℕ) → b < g.blocks → depth g ≤ n → read n g v b s ≡ read (depth g) g v b s
  pub fills : (v : Variable) (b : Block) (x : Value) (n : ℕ) → depth g ≤ n → fill (read n g v) g b x s ≡ fill (read (depth g) g v) g b x s
  -- walking over single predecessors
  pub walks : (v : Variable) (b : Block) (n : ℕ) → b < g.blocks → suc g.blocks ≤ n → walk n g s v [] b ≡ walk (suc g.blocks) g s v [] b
  -- following aliases
  pub follows : (x : Value) (n : ℕ) → s.next ≤ n → follow n s.target x ≡ resolve s x
