-- What the light jobs passed weigh that can go nowhere but into the set (WeightLaws).
use native.Mathlib.Omega.{arith}
use Rattle.weighing.proofs.WeightLaws.{light-more, light-ends}
use Rattle.weighing.proofs.weighing.light_weight.Goals as goal

pub loop-j-preserved : goal.loop-j-preserved
loop-j-preserved c d H =
    light-more d c.args.bay c.args.jobs c.args.minutes.now c.args.allowed.now H c.loop-j.j (omega arith)
    (c.loop-j.invariant d H) c.at.ensures c.at-in-loop-j.ensures c.confined-more.ensures
    c.saturating_add-total.ensures

pub returns : goal.returns
returns c d H =
    light-ends d c.args.bay c.args.jobs c.args.minutes.now c.args.allowed.now H c.loop-j.j (omega arith) (omega arith)
    (c.loop-j.invariant d H)
