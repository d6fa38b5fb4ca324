-- The set is in the closure and grows with each pass, or the pass is the last (SpreadRun).
use native.Mathlib.Omega.{arith}
use Rattle.rocks.proofs.SpreadRun.{spread_starts, spread_goes_on, spread_ends, spread_spent}
use Rattle.rocks.proofs.spreading.spread.Goals as goal

pub loop-init : goal.loop-init
loop-init c =
    λ S ends X.
    spread_starts c.args.n.benches c.args.n.rocks c.args.low.now c.args.high.now c.args.dir.now ends S
    c.args.chosen X

pub returns-then-wider-set : goal.returns-then-wider-set
returns-then-wider-set c =
    λ S ends X.
    spread_ends c.args.n.benches c.args.n.rocks c.args.low.now c.args.high.now c.args.dir.now ends S
    c.loop.counter c.loop.set c.widen-wider.result (c.loop.invariant S ends X) c.widen-wider.ensures
    c.if-wider-set.true

pub loop-preserved : goal.loop-preserved
loop-preserved c =
    λ S ends X.
    spread_goes_on c.args.n.benches c.args.n.rocks c.args.low.now c.args.high.now c.args.dir.now ends S
    c.loop.counter c.loop.set c.widen-wider.result (c.loop.invariant S ends X) c.widen-wider.ensures

pub returns : goal.returns
returns c =
    λ S ends X.
    spread_spent c.args.n.benches c.args.n.rocks c.args.low.now c.args.high.now c.args.dir.now ends S
    (c.loop.invariant S ends X) (omega arith)
