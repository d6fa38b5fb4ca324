-- The arrays, the candidates and the neutral rocks follow the outer loop (ForcedLoops).
use Prim.Native.Nat.{◌-◌}
use Rattle.algorithm.specs.Board.{Board, Directions}
use Rattle.rocks.specs.BoardArrays.{Seen}
use Rattle.forced.specs.SetArrays.{forces_at, Covers}
use Rattle.forced.specs.CandidateArrays.{Neutral}
use Rattle.forced.proofs.ForcedLoops.{OuterSets}
use Rattle.rock_graph.specs.Graph.{lows, highs, weights, RockGraph}
use Rattle.forced.proofs.forced.force.Given as goal

abbrev pub invariant-loop : goal.invariant-loop
invariant-loop l =
    (b : Board) (dirs : Directions) (G : RockGraph b l.n l.graph) → Neutral l.n l.initial.dir l.neutral
    → Covers l.n (lows l.graph) (highs l.graph) (forces_at l.n.bound (weights l.graph) l.initial.dir l.initial.load) l.watch
    → Seen b dirs l.initial.dir l.initial.load
    → OuterSets b l.n (lows l.graph) (highs l.graph) (weights l.graph) G.rocks _ G.few_rocks G.maps.incidence dirs
    l.initial.dir (l.n.jobs - l.counter) l.dir l.load l.left l.changed.benches l.changed.neutral
