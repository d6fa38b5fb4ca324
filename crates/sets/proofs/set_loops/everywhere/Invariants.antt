-- The benches passed are in the set.
use mathlib.Core.Bool.{true}
use Rattle.sets.proofs.GatherLaws.{Gathered}
use Rattle.sets.proofs.set_loops.everywhere.Given as goal

abbrev pub invariant-loop-v : goal.invariant-loop-v
invariant-loop-v l = Gathered (λ u. true) l.v l.all
