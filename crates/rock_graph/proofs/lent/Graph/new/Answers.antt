-- Field by field (GraphLaws).
use Prim.Native.Nat.{ℕ}
use mathlib.Core.Path.{refl}
use lib.ListN.{length-replicate}
use Rattle.rock_graph.proofs.GraphLaws.{graph_made}
use Rattle.rock_graph.proofs.lent.Graph.new.Goals as goal

pub returns : goal.returns
returns c =
    let H = c.fill_incident.ensures refl in
    graph_made c.args.n c.args.low.now c.args.high.now c.args.weight.now record {
      ends = c.fill_neighbours.new.neighbours;
      incident = c.fill_incident.new.incident;
      low = c.entries.result;
      high = c.entries-2.result;
      weight = c.entries-3.result;
      touched = c.some-touched.result;
      every_bench = c.everywhere.result;
      every_rock = c.everywhere-2.result;
    } c.entries.ensures c.entries-2.ensures c.entries-3.ensures H (c.fill_neighbours.ensures c.args.n H
    (length-replicate {A = ℕ} 64 0)) c.some-touched.ensures c.everywhere.ensures c.everywhere-2.ensures
