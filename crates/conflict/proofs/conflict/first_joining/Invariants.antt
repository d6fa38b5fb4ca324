-- No candidate passed joins.
use Rattle.conflict.specs.ConflictArrays.{joins_at}
use Rattle.forced.specs.CandidateArrays.{some_rock}
use Rattle.sets.proofs.SetRun.{Searched}
use Rattle.rock_graph.specs.Graph.{incidents, lows, highs}
use Rattle.conflict.proofs.conflict.first_joining.Given as goal

abbrev pub invariant-loop-left : goal.invariant-loop-left
invariant-loop-left l =
    Searched l.cand
    (some_rock (incidents l.graph) (joins_at l.benches (lows l.graph) (highs l.graph) l.dir l.joined)) l.left

abbrev pub decreases-loop-left : goal.decreases-loop-left
decreases-loop-left l = l.left
