-- The benches passed are joined.
use mathlib.Core.Path.{refl}
use native.Mathlib.Omega.{arith}
use Rattle.placing.proofs.ClassLaws.{join_starts, join_more, join_ends}
use Rattle.placing.proofs.classes.join_all.Goals as goal

pub loop-v-init : goal.loop-v-init
loop-v-init c = join_starts c.args.low c.args.high c.args.x c.args.y c.args.labels.now c.args.extra.now

pub loop-v-preserved : goal.loop-v-preserved
loop-v-preserved c =
    join_more c.args.low c.args.high c.args.x c.args.y c.args.labels.now c.args.extra.now c.loop-v.v
    c.loop-v.invariant refl c.raise-more.ensures refl c.saturating_add.ensures refl c.pick.ensures refl

pub returns : goal.returns
returns c =
    let whole = join_ends c.args.low c.args.high c.args.x c.args.y c.args.labels.now c.args.extra.now
    c.args.benches _ c.loop-v.v c.min.ensures c.min-end.ensures c.loop-v.auto.v-end (omega arith)
    c.loop-v.invariant in
    record { raised = whole.0; labelled = whole.1 }
