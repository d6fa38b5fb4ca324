-- The entries passed that are not 0 are in the set.
use mathlib.Core.Path.{ap}
use Prim.Native.Nat.{ℕ}
use lib.Dec.{eqb}
use mathlib.Core.Bool.{not}
use Rattle.sets.proofs.GatherLaws.{gathered_none, gathered_more, has_some}
use Rattle.sets.proofs.set_loops.some.Goals as goal

pub loop-v-init : goal.loop-v-init
loop-v-init c = gathered_none (has_some c.args.t.now)

pub loop-v-preserved : goal.loop-v-preserved
loop-v-preserved c =
    gathered_more (has_some c.args.t.now) c.loop-v.v c.loop-v.found c.add-found.result _ c.loop-v.invariant
    (ap (λ (x : ℕ). not (eqb x 0)) c.at.ensures) c.add-found.ensures
