-- The largest load and the fullest bench of the benches passed.
use Rattle.loads.proofs.BenchSumLaws.{sum_none, sum_more}
use Rattle.loads.proofs.bench_sum.fullest.Goals as goal

pub loop-v-init : goal.loop-v-init
loop-v-init c = sum_none c.args.load.now

pub loop-v-preserved : goal.loop-v-preserved
loop-v-preserved c =
    sum_more c.args.load.now c.loop-v.v c.loop-v.invariant c.at.ensures c.with_bench-sum.ensures
