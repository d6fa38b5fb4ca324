-- The sets have the rocks passed (NeighbourLaws).
use mathlib.Core.Path.{◌≡◌}
use lib.ListN.{replicate}
use Rattle.rock_graph.proofs.NeighbourLaws.{Filling}
use Rattle.rock_graph.proofs.maps.fill_incident.Given as goal

abbrev pub invariant-loop-r : goal.invariant-loop-r
invariant-loop-r l = l.initial.incident ≡ replicate 64 0 → Filling l.low l.high l.r l.incident
