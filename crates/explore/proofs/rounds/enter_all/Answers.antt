-- The benches passed have joined (OpenRun), and have the level (SetRun).
use native.Mathlib.Omega.{arith}
use Rattle.sets.proofs.SetRun.{lowest-below, put_goes_on, put_ends}
use Rattle.explore.proofs.OpenRun.{entering_goes_on, entering_ends}
use Rattle.explore.proofs.rounds.enter_all.Goals as goal

pub loop-left-smaller : goal.loop-left-smaller
loop-left-smaller c =
    c.after-left.ensures.1 c.lowest-v.ensures (lowest-below c.loop-left.left c.lowest-v.result c.lowest-v.ensures
    c.loop-left-test.true (omega (arith, c.loop-left.invariant.1.small, c.ranges.set.fits)))

pub loop-left-preserved : goal.loop-left-preserved
loop-left-preserved c =
    let below = lowest-below c.loop-left.left c.lowest-v.result c.lowest-v.ensures c.loop-left-test.true
    (omega (arith, c.loop-left.invariant.1.small, c.ranges.set.fits)) in
    let same = c.after-left.ensures.0 c.lowest-v.ensures in
    let less = c.after-left.ensures.1 c.lowest-v.ensures below in (
      entering_goes_on c.args.benches c.args.i c.args.set c.args.joined.now c.loop-left.left c.lowest-v.result
          c.loop-left.joined c.loop-left.invariant.0 c.lowest-v.ensures below c.after-left.result same less
          c.enter.ensures,
      put_goes_on c.args.set c.args.i c.args.level.now c.loop-left.left c.lowest-v.result c.loop-left.level
          c.loop-left.invariant.1 c.lowest-v.ensures below c.after-left.result same less c.put.ensures,
    )

pub returns : goal.returns
returns c = (
  entering_ends c.args.benches c.args.i c.args.set c.args.joined.now c.loop-left.left c.loop-left.joined
      c.loop-left.invariant.0 (omega arith),
  put_ends c.args.set c.args.i c.args.level.now c.loop-left.left c.loop-left.level c.loop-left.invariant.1 (omega arith),
)
