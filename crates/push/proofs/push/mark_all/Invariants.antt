-- The sets hold the ends of the rocks passed.
use Rattle.rocks.specs.RockArrays.{child_at}
use Rattle.push.specs.PushArrays.{heavy_at}
use Rattle.push.proofs.ReceiverLaws.{Ends}
use Rattle.rock_graph.specs.Graph.{lows, highs, weights}
use Rattle.push.proofs.push.mark_all.Given as goal

abbrev pub invariant-loop-r : goal.invariant-loop-r
invariant-loop-r l =
    Ends (lows l.graph) (highs l.graph) (child_at l.n.benches (lows l.graph) (highs l.graph) l.dir l.joined) l.r l.m.children
    × Ends (lows l.graph) (highs l.graph)
    (heavy_at l.n.benches l.n.limit (lows l.graph) (highs l.graph) (weights l.graph) l.own l.dir l.joined) l.r l.m.heavy
