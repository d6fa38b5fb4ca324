-- The set is what the rocks passed make of it.
use native.Mathlib.Omega.{arith}
use Rattle.bits.specs.Bits.{is_set}
use Rattle.rocks.proofs.SpreadRun.{widen_none, widen_more}
use Rattle.rocks.proofs.spreading.widen.Goals as goal

pub loop-r-init : goal.loop-r-init
loop-r-init c = λ ends v h. widen_none c.args.low.now c.args.high.now c.args.dir.now (is_set 64 c.args.chosen) v

pub loop-r-preserved : goal.loop-r-preserved
loop-r-preserved c =
    λ ends. widen_more c.args.low.now c.args.high.now c.args.dir.now c.args.chosen c.loop-r.set c.join-set.result
    c.loop-r.r (ends c.loop-r.r (omega arith)) (c.loop-r.invariant ends) c.join-set.ensures
