-- The loads of all jobs, and what is largest and fullest among them.
use Rattle.loads.proofs.BenchSumLaws.{all_summed}
use Rattle.loads.proofs.bench_sum.sum_benches.Goals as goal

pub returns-clause-loads : goal.returns-clause-loads
returns-clause-loads c =
    all_summed c.args.jobs c.args.minutes.now c.args.place.now c.args.load.now 512 c.own_loads.ensures
