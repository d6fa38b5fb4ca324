-- No candidate passed has a neutral rock.
use Prim.Native.Nat.{ℕ, ◌≤◌}
use mathlib.Core.List.{List}
use Rattle.rocks.specs.declared.rocks.Limits.{Limits}
use Rattle.conflict.specs.ConflictArrays.{fake_at}
use Rattle.rock_graph.specs.Neighbours.{Incident}
use Rattle.forced.specs.CandidateArrays.{Neutral, some_rock}
use Rattle.sets.proofs.SetRun.{Searched}
use Rattle.rock_graph.specs.Graph.{incidents, lows, highs}
use Rattle.conflict.proofs.conflict.first_fake.Given as goal

abbrev pub invariant-loop-left : goal.invariant-loop-left
invariant-loop-left l = (l.left ≤ l.fakes) × ((n : Limits) (dir : List ℕ) → Incident n (lows l.graph) (highs l.graph) (incidents l.graph) → Neutral
    n dir l.neutral → Searched l.fakes (some_rock (incidents l.graph) (fake_at l.benches dir l.joined)) l.left)

abbrev pub decreases-loop-left : goal.decreases-loop-left
decreases-loop-left l = l.left
