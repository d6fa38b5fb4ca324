-- The entries passed that are not 0 are in the set.
use Rattle.sets.proofs.GatherLaws.{Gathered, has_some}
use Rattle.sets.proofs.set_loops.some.Given as goal

abbrev pub invariant-loop-v : goal.invariant-loop-v
invariant-loop-v l = Gathered (has_some l.t) l.v l.found
