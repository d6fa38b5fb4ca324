-- The entries passed are joined (SetRun).
use Rattle.sets.proofs.SetRun.{Joined}
use Rattle.sets.proofs.set_loops.reach_of.Given as goal

abbrev pub invariant-loop-left : goal.invariant-loop-left
invariant-loop-left l = Joined l.benches l.table l.left l.reach

abbrev pub decreases-loop-left : goal.decreases-loop-left
decreases-loop-left l = l.left
