-- The benches passed are in the set.
use mathlib.Core.Bool.{true}
use Rattle.sets.proofs.GatherLaws.{gathered_none}
use Rattle.sets.proofs.set_loops.everywhere.Goals as goal

pub loop-v-init : goal.loop-v-init
loop-v-init c = gathered_none (λ u. true)
