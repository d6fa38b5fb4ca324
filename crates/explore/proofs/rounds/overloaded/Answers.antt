-- The overloaded benches passed are in the set (GatherLaws).
use lib.ListN.{get_or}
use lib.Dec.{ltb}
use Rattle.sets.proofs.GatherLaws.{gathered_none}
use Rattle.explore.proofs.rounds.overloaded.Goals as goal

pub loop-v-init : goal.loop-v-init
loop-v-init c = gathered_none (λ u. ltb c.args.n.bound (get_or c.args.load.now u 0))
