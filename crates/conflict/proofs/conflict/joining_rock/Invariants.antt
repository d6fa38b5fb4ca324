-- No rock passed leads to the conflict set.
use lib.ListN.{get_or}
use Rattle.conflict.specs.ConflictArrays.{joins_at}
use Rattle.sets.proofs.SetRun.{Searched}
use Rattle.rock_graph.specs.Graph.{incidents, lows, highs}
use Rattle.conflict.proofs.conflict.joining_rock.Given as goal

abbrev pub invariant-loop-left : goal.invariant-loop-left
invariant-loop-left l =
    Searched (get_or (incidents l.graph) l.v 0)
    (λ r. joins_at l.benches (lows l.graph) (highs l.graph) l.dir l.joined r l.v) l.left

abbrev pub decreases-loop-left : goal.decreases-loop-left
decreases-loop-left l = l.left
