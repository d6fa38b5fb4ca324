-- The rocks passed have their other end in the set.
use Prim.Native.Nat.{◌<◌}
use mathlib.Core.Path.{◌≡◌, sym, ◌∙◌}
use mathlib.Core.Bool.{true}
use native.Mathlib.Omega.{arith}
use lib.Dec.{eqb}
use borrow.Author.Tests.{eq-eqb}
use Rattle.bools.proofs.BoolLaws.{or_left, or_right}
use Rattle.bits.specs.Bits.{is_set}
use Rattle.rocks.specs.RockArrays.{other_at}
use Rattle.sets.proofs.SetRun.{visited_goes_on, visited_ends, first_below}
use Rattle.rock_graph.proofs.maps.others.Goals as goal

pub loop-left-smaller : goal.loop-left-smaller
loop-left-smaller c =
    c.after-left.ensures.1 c.lowest-r.ensures (first_below c.args.set c.loop-left.left c.lowest-r.result
    c.lowest-r.ensures c.loop-left-test.true c.loop-left.invariant.small c.ranges.set.fits)

pub loop-left-preserved : goal.loop-left-preserved
loop-left-preserved c =
    visited_goes_on c.args.set (λ r. other_at c.args.low.now c.args.high.now r c.args.v < 64 → is_set
    64 c.loop-left.found (other_at c.args.low.now c.args.high.now r c.args.v) ≡ true)
    (λ r. other_at c.args.low.now c.args.high.now r c.args.v < 64 → is_set 64 c.with-found.result
    (other_at c.args.low.now c.args.high.now r c.args.v) ≡ true) c.loop-left.left c.lowest-r.result
    c.after-left.result c.loop-left.invariant (c.after-left.ensures.0 c.lowest-r.ensures)
    (c.after-left.ensures.1 c.lowest-r.ensures (first_below c.args.set c.loop-left.left c.lowest-r.result
    c.lowest-r.ensures c.loop-left-test.true c.loop-left.invariant.small c.ranges.set.fits))
    (λ r p h. c.with-found.ensures (other_at c.args.low.now c.args.high.now r c.args.v) h ∙ or_left
    (eqb (other_at c.args.low.now c.args.high.now r c.args.v) c.other.result) (p h))
    (λ h. c.with-found.ensures (other_at c.args.low.now c.args.high.now c.lowest-r.result c.args.v) h ∙
    or_right (is_set 64 c.loop-left.found (other_at c.args.low.now c.args.high.now c.lowest-r.result
    c.args.v)) (eq-eqb (other_at c.args.low.now c.args.high.now c.lowest-r.result c.args.v)
    c.other.result (sym c.other.ensures)))

pub returns : goal.returns
returns c =
    λ r h p.
    visited_ends c.args.set (λ r. other_at c.args.low.now c.args.high.now r c.args.v < 64 → is_set 64
    c.loop-left.found (other_at c.args.low.now c.args.high.now r c.args.v) ≡ true) c.loop-left.left
    c.loop-left.invariant (omega arith) r h p
