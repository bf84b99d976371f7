-- A picture as text: Graphviz's DOT, byte for byte. That of the worked case G is
--   digraph f {
--   b0 [label="b0()"];
--   b1 [label="b1(v1)"];
--   b0 -> b1 [label="v0"];
--   b1 -> b1 [label="v2"];
--   }
-- Assumes nothing.
use Rattle.std.specs.Prelude.{ℕ, zero, suc, ◌+◌, ◌/◌, ◌%◌, List, [], ◌∷◌, ◌++◌, length, get_or, if◌then◌else◌}
use Prim.Native.Char.{code}
use Prim.Native.String.{String, [] as nothing, ◌∷◌ as ◌then◌}
use Rattle.definition.specs.Base.{◌<?◌, ◌∷ʳ◌, up_from}

-- what is drawn
pub record Picture : Type 0 where
  pub blocks : ℕ  -- how many blocks there are
  pub params : ℕ → List ℕ  -- each block's parameters
  pub dests : ℕ → List ℕ  -- the blocks that its branch names; none where it has no branch
  pub args : ℕ → ℕ → List ℕ  -- the arguments of a block's branch at each of its destinations

-- a quoted text's bytes: in ASCII a character's byte is its code
abbrev pub bytes : String → List ℕ
bytes nothing = []
bytes (c then s) = code c ∷ bytes s

-- the last digits of n, k at most; the digit 0 has code 48
unfoldable pub digits : ℕ → ℕ → List ℕ
digits zero n = []
digits (suc k) n = (if n <? 10 then [] else digits k (n / 10)) ∷ʳ (48 + n % 10)

-- n in decimal: it has no more than n + 1 digits
unfoldable pub decimal : ℕ → List ℕ
decimal n = digits (suc n) n

-- a text and a number after it
unfoldable pub named : String → ℕ → List ℕ
named s n = bytes s ++ decimal n

-- what f writes of each entry, one after the other
unfoldable pub each : (ℕ → List ℕ) → List ℕ → List ℕ
each f [] = []
each f (x ∷ xs) = f x ++ each f xs

-- v1,v3
unfoldable pub values : List ℕ → List ℕ
values [] = []
values (x ∷ xs) = named "v" x ++ each (named ",v") xs

-- b1 [label="b1(v1,v3)"];
unfoldable pub block_line : ℕ → List ℕ → List ℕ
block_line b ps = named "b" b ++ named " [label=\"b" b ++ bytes "(" ++ values ps ++ bytes ")\"];\n"

-- b0 -> b1 [label="v0"];
unfoldable pub edge_line : ℕ → ℕ → List ℕ → List ℕ
edge_line b c us = named "b" b ++ named " -> b" c ++ bytes " [label=\"" ++ values us ++ bytes "\"];\n"

module _ (p : Picture) where
  -- the lines of a block's branch, by the place of the destination
  abbrev pub edge_lines : ℕ → List ℕ
  edge_lines b = each (λ i. edge_line b (get_or (p.dests b) i 0) (p.args b i)) (up_from 0 (length (p.dests b)))

  -- the blocks in number order, then the edges by branching block and place
  abbrev pub text : List ℕ
  text =
      let blocks = up_from 0 p.blocks in
      bytes "digraph f {\n" ++ each (λ b. block_line b (p.params b)) blocks ++ each edge_lines blocks ++ bytes "}\n"
