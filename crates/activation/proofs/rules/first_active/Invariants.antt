-- No bench passed is to be activated (SetRun, CandidateLaws).
use Rattle.activation.specs.ActivationArrays.{activates_at}
use Rattle.forced.specs.CandidateArrays.{some_rock}
use Rattle.sets.proofs.SetRun.{Searched}
use Rattle.rock_graph.specs.Graph.{incidents, lows, highs, weights}
use Rattle.activation.proofs.rules.first_active.Given as goal

abbrev pub invariant-loop-left : goal.invariant-loop-left
invariant-loop-left l =
    Searched l.wait (some_rock (incidents l.graph)
    (activates_at l.n (lows l.graph) (highs l.graph) (weights l.graph) l.own l.dir l.joined l.level)) l.left

abbrev pub decreases-loop-left : goal.decreases-loop-left
decreases-loop-left l = l.left
