-- The worked case G, whose picture is six lines: computed.
-- Assumes nothing.
use Prim.Native.Nat.{ℕ}
use Prim.Native.String.{String}
use mathlib.Core.Path.{◌≡◌, refl}
use mathlib.Core.List.{List, [], ◌∷◌, ◌++◌}
use lib.ListN.{get_or}
use Rattle.definition.specs.Session.{session}
use Rattle.definition.specs.Starred.{cases}
use Rattle.lines.specs.Text.{bytes, digits, decimal, named, each, values, block_line, edge_line, text}
use Rattle.draw.specs.Seen.{state_picture}

-- a line and its end
abbrev pub line : String → List ℕ
line s = bytes s ++ (10 ∷ [])

pub case_g_drawn : let t = session (get_or cases 6 []) in text (state_picture t.graph t.form)
    ≡ line "digraph f {"
    ++ line "b0 [label=\"b0()\"];"
    ++ line "b1 [label=\"b1(v1)\"];"
    ++ line "b0 -> b1 [label=\"v0\"];"
    ++ line "b1 -> b1 [label=\"v2\"];"
    ++ line "}"
unfolding cases digits decimal named each values block_line edge_line
case_g_drawn = refl
