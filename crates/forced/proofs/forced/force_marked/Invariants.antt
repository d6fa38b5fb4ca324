-- The arrays, the candidates and the neutral rocks follow the inner loop (ForcedLoops).
use Prim.Native.Nat.{◌<◌, ◌-◌}
use Rattle.algorithm.specs.Board.{Board, Directions}
use Rattle.rocks.specs.BoardArrays.{Seen}
use Rattle.forced.specs.SetArrays.{forces_at}
use Rattle.forced.specs.CandidateArrays.{Neutral, CoversBut}
use Rattle.forced.proofs.ForcedLoops.{InnerSets}
use Rattle.rock_graph.specs.Graph.{lows, highs, weights, RockGraph}
use Rattle.forced.proofs.forced.force_marked.Given as goal

abbrev pub invariant-loop : goal.invariant-loop
invariant-loop l =
    (b : Board) (dirs : Directions) (G : RockGraph b l.n l.graph) → Neutral l.n l.initial.dir l.initial.changed.neutral
    → CoversBut l.n (lows l.graph) (highs l.graph) (forces_at l.n.bound (weights l.graph) l.initial.dir l.initial.load)
    l.watch l.first
    → l.first < 64 → Seen b dirs l.initial.dir l.initial.load
    → InnerSets b l.n (lows l.graph) (highs l.graph) (weights l.graph) G.rocks _ G.few_rocks G.maps.incidence dirs l.first
    l.watch l.initial.dir l.initial.changed.benches (l.n.jobs - l.counter) l.dir l.load l.cand l.changed.benches
    l.changed.neutral
