-- Job by job, as long as the set may grow.
use native.Mathlib.Omega.{arith}
use Rattle.push.proofs.KeptRun.{lies_none, lies_more, lies_all, lies_full}
use Rattle.push.proofs.kept.reach_from.Goals as goal

pub loop-j-init : goal.loop-j-init
loop-j-init c = λ v h. lies_none c.args.choice.now c.args.place.now c.args.u v

pub returns-then-set-full : goal.returns-then-set-full
returns-then-set-full c = λ v h had.
    lies_full c.args.choice.now c.args.place.now c.args.u c.loop-j.j c.args.jobs c.loop-j.set c.args.full v
    (omega (arith, c.loop-j.auto.j-end, c.min-j-end.ensures)) c.if-set-full.true (c.loop-j.invariant v h) had

pub loop-j-preserved : goal.loop-j-preserved
loop-j-preserved c =
    lies_more c.args.choice.now c.args.place.now c.args.u c.loop-j.j c.loop-j.set c.reach_more-set.result
    c.loop-j.invariant c.reach_more-set.ensures

pub returns : goal.returns
returns c = λ v h had.
    lies_all c.args.choice.now c.args.place.now c.args.u c.loop-j.j c.args.jobs _ c.loop-j.set v
    (omega (arith, c.loop-j.auto.j-end, c.min-j-end.ensures)) c.min-j-end.ensures (omega arith) (c.loop-j.invariant v h)
