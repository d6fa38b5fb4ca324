-- No bench passed is to be activated (SetRun, CandidateLaws).
use mathlib.Core.Path.{sym, ◌∙◌}
use native.Mathlib.Omega.{arith}
use Rattle.activation.specs.ActivationArrays.{activates_at}
use Rattle.forced.specs.CandidateArrays.{some_rock}
use Rattle.sets.proofs.SetRun.{first_below, searched_goes_on}
use Rattle.forced.proofs.CandidateLaws.{bench_found, bench_none}
use Rattle.rock_graph.specs.Graph.{incidents, lows, highs, weights}
use Rattle.activation.proofs.rules.first_active.Goals as goal

pub returns-then-active_by : goal.returns-then-active_by
returns-then-active_by c =
    bench_found (incidents c.args.graph.now)
    (activates_at c.args.n (lows c.args.graph.now) (highs c.args.graph.now) (weights c.args.graph.now) c.args.own.now
    c.args.dir.now c.args.joined.now c.args.level.now)
    c.args.wait c.loop-left.left c.loop-left.invariant c.lowest-v.result c.lowest-v.ensures
    (first_below c.args.wait c.loop-left.left c.lowest-v.result c.lowest-v.ensures c.loop-left-test.true
    c.loop-left.invariant.small c.ranges.wait.fits) (sym c.active_by.ensures ∙ c.if-active_by.true)

pub loop-left-smaller : goal.loop-left-smaller
loop-left-smaller c =
    c.after-left.ensures.1 c.lowest-v.ensures
    (first_below c.args.wait c.loop-left.left c.lowest-v.result c.lowest-v.ensures c.loop-left-test.true
    c.loop-left.invariant.small c.ranges.wait.fits)

pub loop-left-preserved : goal.loop-left-preserved
loop-left-preserved c =
    let below = first_below c.args.wait c.loop-left.left c.lowest-v.result c.lowest-v.ensures c.loop-left-test.true
    c.loop-left.invariant.small c.ranges.wait.fits in
    searched_goes_on c.args.wait (some_rock (incidents c.args.graph.now)
    (activates_at c.args.n (lows c.args.graph.now) (highs c.args.graph.now) (weights c.args.graph.now) c.args.own.now
    c.args.dir.now c.args.joined.now c.args.level.now))
    c.loop-left.left c.lowest-v.result c.loop-left.invariant c.lowest-v.ensures below c.after-left.result
    (c.after-left.ensures.0 c.lowest-v.ensures) (c.after-left.ensures.1 c.lowest-v.ensures below)
    (sym c.active_by.ensures ∙ c.if-active_by.false)

pub returns : goal.returns
returns c =
    bench_none (incidents c.args.graph.now)
    (activates_at c.args.n (lows c.args.graph.now) (highs c.args.graph.now) (weights c.args.graph.now) c.args.own.now
    c.args.dir.now c.args.joined.now c.args.level.now)
    c.args.wait c.loop-left.left c.loop-left.invariant (omega arith)
