-- What the functions that read the graph ask follows of each state that the cells show.
-- Assumes nothing.
use Prim.Native.Nat.{ℕ, ◌<◌}
use mathlib.Core.List.{List}
use Rattle.definition.specs.Session.{State}
use Rattle.layout.specs.declared.Counts.{Counts}
use Rattle.graph.specs.Seen.{GraphWith, Seen}
use Rattle.form.specs.Can.{Cells}
use Rattle.reply.specs.Replies.{Showing, SomeState}

module _ {gl fl : List ℕ} {c : Counts} {t : State} (h : Showing gl fl c t) where
  pub seen : Seen gl t.graph
  seen = record { cells = h.leaves.graph.cells; bounds = h.sure.safe.bounds; sound = h.sure.whole.sound }

  pub cells : Cells fl t.form
  cells = h.leaves.form.cells

  -- the values are those below the count that travels beside the cells
  pub below_next : (x : ℕ) → x < c.values → x < t.form.next
  below_next x l = rw (← h.leaves.form.next) l

pub seen_some : {gl fl : List ℕ} {c : Counts} → SomeState gl fl c → GraphWith (Seen gl)
seen_some p = (p.0.graph, seen p.1)
