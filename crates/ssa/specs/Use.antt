-- A use and a seal over the lent cells: each asks that the cells show a steady state, as every session's is, and leaves them showing the next one.
-- Assumes nothing.
use Rattle.std.specs.Prelude.{ℕ, suc, ◌<◌, ◌≡◌, true, false, List, [], ◌∷◌, length}
use Rattle.entity.specs.declared.Value.{Value}
use Rattle.definition.specs.Base.{put}
use Rattle.definition.specs.Form.{Graph, Form}
use Rattle.definition.specs.Read.{read, depth, fill}
use Rattle.definition.specs.Session.{mark_sealed, seal_form}
use Rattle.meaning.specs.Machine.{conf}
use Rattle.meaning.proofs.Rest.{Rest}
use Rattle.meaning.proofs.Sealing.{idle}
use Rattle.meaning.proofs.Steady.{Steady}
use Rattle.layout.specs.declared.Counts.{Counts}
use Rattle.layout.specs.Layout.{Graphs, Shown}
use Rattle.graph.specs.Seen.{Seen}

-- there are a graph and a form such that
abbrev pub StateWith : (Graph → Form → Type 0) → Type 0
StateWith P = (g : Graph) × (s : Form) × P g s

-- The cells show a steady state, and both stacks are empty.
pub record AtRest (gl fl wl : List ℕ) (c : Counts) (g : Graph) (s : Form) : Type 0 where
  pub graph : Graphs gl c g
  pub shown : Shown fl wl c (conf [] [] s)
  pub steady : Steady g s

-- variable v can be read in block b
pub record CanRead (gl fl wl : List ℕ) (c : Counts) (v b : ℕ) (g : Graph) (s : Form) : Type 0 where
  pub rest : AtRest gl fl wl c g s
  pub var : v < length g.types
  pub known : b < g.blocks

pub record HasRead (gl fl wl : List ℕ) (r : Value × Counts) (v b : ℕ) (g : Graph) (s : Form) : Type 0 where
  pub val : r.0.0 ≡ (read (depth g) g v b s).0
  pub rest : AtRest gl fl wl r.1 g (read (depth g) g v b s).1

-- In the sealed block b the parameter x of v can be settled: it is the next of those that waited, and `others` come after it.
pub record CanFill (gl fl wl : List ℕ) (c : Counts) (v x b : ℕ) (g : Graph) (s : Form) : Type 0 where
  pub seen : Seen gl g
  pub call : c.call ≡ g.call
  pub shown : Shown fl wl c (conf [] [] s)
  pub sealed : g.sealed b ≡ true
  pub others : List (ℕ × ℕ)
  pub rest : Rest g (put b ((v, x) ∷ others) idle) (suc (length others)) s

pub record HasFilled (fl wl : List ℕ) (n : ℕ) (r : Counts) (v x b : ℕ) (g : Graph) (s : Form) : Type 0 where
  pub call : r.call ≡ n
  pub shown : Shown fl wl r (conf [] [] (fill (read (depth g) g v) g b x s).1)

-- block b is there, to be sealed
pub record CanSeal (gl fl wl : List ℕ) (c : Counts) (b : ℕ) (g : Graph) (s : Form) : Type 0 where
  pub rest : AtRest gl fl wl c g s
  pub known : b < g.blocks

-- a sealed block stays as it is; another is sealed
pub record HasSealed (gl fl wl : List ℕ) (r : Counts) (b : ℕ) (g : Graph) (s : Form) : Type 0 where
  pub again : g.sealed b ≡ true → AtRest gl fl wl r g s
  pub first : g.sealed b ≡ false → AtRest gl fl wl r (mark_sealed g b) (seal_form g s b)

-- b is marked in the cells, while what waits there still waits
pub record Marked (gl fl wl : List ℕ) (c : Counts) (b : ℕ) (g : Graph) (s : Form) : Type 0 where
  pub graph : Graphs gl c (mark_sealed g b)
  pub shown : Shown fl wl c (conf [] [] s)
  pub steady : Steady g s
  pub known : b < g.blocks
  pub unsealed : g.sealed b ≡ false
