-- The benches passed have the other ends of their rocks (NeighbourLaws).
use mathlib.Core.Path.{◌≡◌}
use lib.ListN.{length}
use Rattle.rock_graph.proofs.NeighbourLaws.{Nearing}
use Rattle.rock_graph.proofs.maps.fill_neighbours.Given as goal

abbrev pub invariant-loop-v : goal.invariant-loop-v
invariant-loop-v l = length l.initial.neighbours ≡ 64 → Nearing l.low l.high l.incident l.v l.neighbours
