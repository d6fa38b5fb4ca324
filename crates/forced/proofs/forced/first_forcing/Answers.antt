-- No rock is forced from a bench passed (SetRun, CandidateLaws).
use native.Mathlib.Omega.{arith}
use Rattle.forced.specs.SetArrays.{forces_at}
use Rattle.forced.specs.CandidateArrays.{some_rock}
use Rattle.sets.proofs.SetRun.{first_below, searched_goes_on}
use Rattle.forced.proofs.CandidateLaws.{rock_found, rock_none, bench_found, bench_none, bench_left}
use Rattle.rock_graph.specs.Graph.{incidents, weights}
use Rattle.forced.proofs.forced.first_forcing.Goals as goal

pub returns-in-Some : goal.returns-in-Some
returns-in-Some c = λ n dir H N.
    let P = forces_at c.args.bound (weights c.args.graph.now) dir c.args.load.now in
    let S = c.loop-left.invariant.1 n dir H N in
    let below = first_below c.args.cand c.loop-left.left c.lowest-bench.result c.lowest-bench.ensures
    c.loop-left-test.true c.loop-left.invariant.0 c.ranges.cand.fits in
    let rock = c.in-Some.ensures n dir H N below in (
      bench_found (incidents c.args.graph.now) P c.args.cand c.loop-left.left S c.lowest-bench.result
          c.lowest-bench.ensures below (rock_found (incidents c.args.graph.now) P c.lowest-bench.result c.in-Some.rock rock),
      rock,
      bench_left (incidents c.args.graph.now) P c.args.cand c.loop-left.left S,
    )

pub loop-left-smaller : goal.loop-left-smaller
loop-left-smaller c =
    c.after-left.ensures.1 c.lowest-bench.ensures (first_below c.args.cand c.loop-left.left c.lowest-bench.result
    c.lowest-bench.ensures c.loop-left-test.true c.loop-left.invariant.0 c.ranges.cand.fits)

pub loop-left-preserved : goal.loop-left-preserved
loop-left-preserved c =
    let below = first_below c.args.cand c.loop-left.left c.lowest-bench.result c.lowest-bench.ensures
    c.loop-left-test.true c.loop-left.invariant.0 c.ranges.cand.fits in
    let less = c.after-left.ensures.1 c.lowest-bench.ensures below in (
      omega (arith, less, c.loop-left.invariant.0),
      λ n dir H N.
          let P = forces_at c.args.bound (weights c.args.graph.now) dir c.args.load.now in
          searched_goes_on c.args.cand (some_rock (incidents c.args.graph.now) P) c.loop-left.left c.lowest-bench.result
          (c.loop-left.invariant.1 n dir H N) c.lowest-bench.ensures below c.after-left.result
          (c.after-left.ensures.0 c.lowest-bench.ensures) less
          (rock_none (incidents c.args.graph.now) P c.lowest-bench.result (c.in_default.ensures n dir H N below)),
    )

pub returns : goal.returns
returns c = λ n dir H N.
    bench_none (incidents c.args.graph.now) (forces_at c.args.bound (weights c.args.graph.now) dir c.args.load.now)
    c.args.cand c.loop-left.left (c.loop-left.invariant.1 n dir H N) (omega arith)
