-- The largest load and the fullest bench of the benches passed.
use mathlib.Core.Path.{◌≡◌}
use Rattle.loads.specs.BenchSum.{sum_of}
use Rattle.loads.proofs.bench_sum.fullest.Given as goal

abbrev pub invariant-loop-v : goal.invariant-loop-v
invariant-loop-v l = l.sum ≡ sum_of l.v l.load
