-- The benches passed have joined (OpenRun), and have the level (SetRun).
use Rattle.sets.proofs.SetRun.{Put}
use Rattle.explore.proofs.OpenRun.{Entering}
use Rattle.explore.proofs.rounds.enter_all.Given as goal

abbrev pub invariant-loop-left : goal.invariant-loop-left
invariant-loop-left l = Entering l.benches l.i l.set l.initial.joined l.left l.joined × Put l.set l.i l.initial.level l.left l.level

abbrev pub decreases-loop-left : goal.decreases-loop-left
decreases-loop-left l = l.left
