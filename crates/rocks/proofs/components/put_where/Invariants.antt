-- The entries of the benches passed are written (SetRun).
use Rattle.sets.proofs.SetRun.{Put}
use Rattle.rocks.proofs.components.put_where.Given as goal

abbrev pub invariant-loop-left : goal.invariant-loop-left
invariant-loop-left g l = Put l.set l.x l.initial.to l.left l.to

abbrev pub decreases-loop-left : goal.decreases-loop-left
decreases-loop-left g l = l.left
