-- The entries passed are joined (SetRun).
use Rattle.sets.proofs.SetRun.{lowest-below, joined_starts, joined_goes_on, joined_full, joined_ends}
use native.Mathlib.Omega.{arith}
use Rattle.sets.proofs.set_loops.reach_of.Goals as goal

pub loop-left-init : goal.loop-left-init
loop-left-init c = joined_starts c.args.benches c.args.table.now

pub returns-then-less-eq0 : goal.returns-then-less-eq0
returns-then-less-eq0 c = λ v l h.
    joined_full c.args.benches c.args.table.now c.loop-left.left c.loop-left.reach c.args.full c.less.result c.loop-left.invariant c.less.ensures c.if-less-eq0.true v h

pub loop-left-smaller : goal.loop-left-smaller
loop-left-smaller c =
    c.after-left.ensures.1 c.lowest-u.ensures (lowest-below c.loop-left.left c.lowest-u.result c.lowest-u.ensures
    c.loop-left-test.true (omega (arith, c.loop-left.invariant.small, c.ranges.benches.fits)))

pub loop-left-preserved : goal.loop-left-preserved
loop-left-preserved c =
    let below = lowest-below c.loop-left.left c.lowest-u.result c.lowest-u.ensures c.loop-left-test.true
    (omega (arith, c.loop-left.invariant.small, c.ranges.benches.fits)) in
    joined_goes_on c.args.benches c.args.table.now c.loop-left.left c.lowest-u.result c.loop-left.reach
    c.loop-left.invariant c.lowest-u.ensures below c.after-left.result (c.after-left.ensures.0 c.lowest-u.ensures)
    (c.after-left.ensures.1 c.lowest-u.ensures below) c.at-reach.ensures

pub returns : goal.returns
returns c =
    λ v l h.
    joined_ends c.args.benches c.args.table.now c.loop-left.left c.loop-left.reach c.loop-left.invariant (omega arith)
    v
