-- No candidate passed joins.
use Prim.Native.Nat.{ℕ}
use mathlib.Core.Path.{sym, ap, ◌∙◌}
use native.Mathlib.Omega.{arith}
use Rattle.std.specs.Prelude.{Option, is_some}
use Rattle.conflict.specs.ConflictArrays.{joins_at}
use Rattle.forced.specs.CandidateArrays.{some_rock}
use Rattle.sets.proofs.SetRun.{first_below, searched_goes_on}
use Rattle.forced.proofs.CandidateLaws.{bench_found, bench_none}
use Rattle.conflict.proofs.ConflictLoops.{rock_there}
use Rattle.rock_graph.specs.Graph.{incidents, lows, highs}
use Rattle.conflict.proofs.conflict.first_joining.Goals as goal

pub returns-then-is_some : goal.returns-then-is_some
returns-then-is_some c =
    bench_found (incidents c.args.graph.now)
    (joins_at c.args.benches (lows c.args.graph.now) (highs c.args.graph.now) c.args.dir.now c.args.joined.now)
    c.args.cand c.loop-left.left c.loop-left.invariant c.lowest-v.result c.lowest-v.ensures
    (first_below c.args.cand c.loop-left.left c.lowest-v.result c.lowest-v.ensures c.loop-left-test.true
    c.loop-left.invariant.small c.ranges.cand.fits)
    (sym (c.is_some.ensures ∙ ap (λ (found : Option ℕ). is_some found) c.joining_rock.ensures
    ∙ rock_there (incidents c.args.graph.now)
    (joins_at c.args.benches (lows c.args.graph.now) (highs c.args.graph.now) c.args.dir.now c.args.joined.now)
    c.lowest-v.result) ∙ c.if-is_some.true)

pub loop-left-smaller : goal.loop-left-smaller
loop-left-smaller c =
    c.after-left.ensures.1 c.lowest-v.ensures (first_below c.args.cand c.loop-left.left c.lowest-v.result
    c.lowest-v.ensures c.loop-left-test.true c.loop-left.invariant.small c.ranges.cand.fits)

pub loop-left-preserved : goal.loop-left-preserved
loop-left-preserved c =
    let below = first_below c.args.cand c.loop-left.left c.lowest-v.result c.lowest-v.ensures c.loop-left-test.true
    c.loop-left.invariant.small c.ranges.cand.fits in
    searched_goes_on c.args.cand (some_rock (incidents c.args.graph.now)
    (joins_at c.args.benches (lows c.args.graph.now) (highs c.args.graph.now) c.args.dir.now c.args.joined.now))
    c.loop-left.left c.lowest-v.result c.loop-left.invariant c.lowest-v.ensures below c.after-left.result
    (c.after-left.ensures.0 c.lowest-v.ensures) (c.after-left.ensures.1 c.lowest-v.ensures below)
    (sym (c.is_some.ensures ∙ ap (λ (found : Option ℕ). is_some found) c.joining_rock.ensures
    ∙ rock_there (incidents c.args.graph.now)
    (joins_at c.args.benches (lows c.args.graph.now) (highs c.args.graph.now) c.args.dir.now c.args.joined.now)
    c.lowest-v.result) ∙ c.if-is_some.false)

pub returns : goal.returns
returns c =
    bench_none (incidents c.args.graph.now)
    (joins_at c.args.benches (lows c.args.graph.now) (highs c.args.graph.now) c.args.dir.now c.args.joined.now)
    c.args.cand c.loop-left.left c.loop-left.invariant (omega arith)
