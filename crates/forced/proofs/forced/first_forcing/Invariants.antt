-- No rock is forced from a bench passed (SetRun, CandidateLaws).
use Prim.Native.Nat.{ℕ, ◌≤◌}
use mathlib.Core.List.{List}
use Rattle.rocks.specs.declared.rocks.Limits.{Limits}
use Rattle.forced.specs.SetArrays.{forces_at}
use Rattle.rock_graph.specs.Neighbours.{Incident}
use Rattle.forced.specs.CandidateArrays.{Neutral, some_rock}
use Rattle.sets.proofs.SetRun.{Searched}
use Rattle.rock_graph.specs.Graph.{incidents, lows, highs, weights}
use Rattle.forced.proofs.forced.first_forcing.Given as goal

abbrev pub invariant-loop-left : goal.invariant-loop-left
invariant-loop-left l = (l.left ≤ l.cand) × ((n : Limits) (dir : List ℕ) → Incident n (lows l.graph) (highs l.graph) (incidents l.graph) → Neutral n dir l.neutral → Searched l.cand (some_rock (incidents l.graph) (forces_at l.bound (weights l.graph) dir l.load)) l.left)

abbrev pub decreases-loop-left : goal.decreases-loop-left
decreases-loop-left l = l.left
