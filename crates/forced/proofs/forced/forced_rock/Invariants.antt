-- No neutral rock passed is too heavy (SetRun, NeutralLaws).
use Rattle.sets.proofs.SetRun.{Searched}
use Rattle.forced.proofs.NeutralLaws.{exceeds_at}
use Rattle.rock_graph.specs.Graph.{weights}
use Rattle.forced.proofs.forced.forced_rock.Given as goal

abbrev pub invariant-loop-left : goal.invariant-loop-left
invariant-loop-left l = Searched l.initial.left (exceeds_at l.bound (weights l.graph) l.load l.v) l.left

abbrev pub decreases-loop-left : goal.decreases-loop-left
decreases-loop-left l = l.left
