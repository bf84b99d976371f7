-- Every session's graph is seen in its own cells, so what the functions ask can be met: sessions keep to the limits, and the render holds the tables.
-- Assumes nothing.
use mathlib.Core.List.{List}
use Rattle.definition.specs.Session.{Call, session}
use Rattle.meaning.proofs.Sure.{sure}
use Rattle.layout.specs.Layout.{graph_sizes, graph_tables, render_graph}
use Rattle.layout.proofs.Cells.{render_holds}
use Rattle.graph.specs.Seen.{Seen}

pub session_seen : (cs : List Call) → Seen (render_graph (session cs).graph) (session cs).graph
session_seen cs = record {
  cells = render_holds graph_sizes (graph_tables (session cs).graph);
  bounds = (sure cs).safe.bounds;
  sound = (sure cs).whole.sound;
}
