-- What is booked on the benches passed (WeightLaws).
use native.Mathlib.Omega.{arith}
use Rattle.weighing.proofs.WeightLaws.{booked_more, booked_ends}
use Rattle.weighing.proofs.weighing.booked_weight.Goals as goal

pub loop-v-preserved : goal.loop-v-preserved
loop-v-preserved c d B =
    booked_more d c.args.benches c.args.booked.now c.args.set B c.loop-v.v (omega arith) (c.loop-v.invariant d B)
    c.booked_at.ensures c.saturating_add-total.ensures

pub returns : goal.returns
returns c d B =
    booked_ends d c.args.benches c.args.booked.now c.args.set B c.loop-v.v (omega arith) (omega arith)
    (c.loop-v.invariant d B)
