-- The overloaded benches passed are in the set (GatherLaws).
use lib.ListN.{get_or}
use lib.Dec.{ltb}
use Rattle.sets.proofs.GatherLaws.{Gathered}
use Rattle.explore.proofs.rounds.overloaded.Given as goal

abbrev pub invariant-loop-v : goal.invariant-loop-v
invariant-loop-v l = Gathered (λ u. ltb l.n.bound (get_or l.load u 0)) l.v l.over
