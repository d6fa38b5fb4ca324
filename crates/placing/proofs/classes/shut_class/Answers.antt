-- The benches passed are shut where they have the label.
use Prim.Native.Nat.{ℕ}
use mathlib.Core.Path.{ap}
use native.Mathlib.Omega.{arith}
use lib.Dec.{eqb}
use Rattle.placing.proofs.ClassLaws.{shut_starts, shut_more, shut_ends}
use Rattle.placing.proofs.classes.shut_class.Goals as goal

pub loop-v-init : goal.loop-v-init
loop-v-init c = shut_starts c.args.shut c.args.label c.args.labels.now

pub loop-v-preserved : goal.loop-v-preserved
loop-v-preserved c =
    shut_more c.args.shut c.args.label c.args.labels.now c.loop-v.v c.loop-v.all c.loop-v.invariant
    (ap (λ (n : ℕ). eqb n c.args.label) c.at.ensures) c.add-all.ensures

pub returns : goal.returns
returns c =
    shut_ends c.args.shut c.args.label c.args.labels.now c.args.benches c.loop-v.v c.loop-v.all c.loop-v.invariant
    (omega arith)
