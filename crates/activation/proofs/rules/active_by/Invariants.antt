-- No rock passed activates the bench (SetRun).
use lib.ListN.{get_or}
use Rattle.activation.specs.ActivationArrays.{activates_at}
use Rattle.sets.proofs.SetRun.{Searched}
use Rattle.rock_graph.specs.Graph.{incidents, lows, highs, weights}
use Rattle.activation.proofs.rules.active_by.Given as goal

abbrev pub invariant-loop-left : goal.invariant-loop-left
invariant-loop-left l =
    Searched (get_or (incidents l.graph) l.v 0)
    (λ r. activates_at l.n (lows l.graph) (highs l.graph) (weights l.graph) l.own l.dir l.joined l.level r l.v) l.left

abbrev pub decreases-loop-left : goal.decreases-loop-left
decreases-loop-left l = l.left
