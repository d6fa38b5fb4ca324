-- The arrays show a state from which the rounds that are left give what the exploration gives (ExploreSets).
use mathlib.Core.Path.{◌≡◌}
use lib.ListN.{replicate}
use Rattle.algorithm.specs.Board.{Board}
use Rattle.algorithm.specs.Forced.{forced_orientations}
use Rattle.arrays.specs.Arrays.{plus_of}
use Rattle.rocks.specs.BoardArrays.{Owned, Seen}
use Rattle.explore.specs.ExploreArrays.{Reaches}
use Rattle.forced.specs.SetArrays.{Nowhere, forces_at}
use Rattle.forced.specs.CandidateArrays.{Neutral}
use Rattle.explore.proofs.ExploreSets.{Exploration}
use Rattle.rock_graph.specs.Graph.{lows, highs, weights, RockGraph}
use Rattle.explore.proofs.rounds.explore.Given as goal

abbrev pub invariant-loop-i : goal.invariant-loop-i
invariant-loop-i l =
    (b : Board) (G : RockGraph b l.n l.graph) → Owned b l.own → Reaches b l.reach
    → Seen b (forced_orientations b (replicate b.jobs 0)) l.initial.dir l.initial.load
    → Nowhere l.n (lows l.graph) (highs l.graph) (forces_at l.n.bound (weights l.graph) l.initial.dir l.initial.load)
    → Neutral l.n l.initial.dir l.initial.neutral → l.initial.joined ≡ replicate 64 (plus_of l.n.benches 1)
    → l.initial.level ≡ replicate 64 (plus_of l.n.benches 1)
    → Exploration b l.n _ _ _ G.rocks l.i l.all l.dir l.load l.joined l.level l.neutral l.active l.fresh l.wait
