-- The entries passed are what the rule says.
use native.Mathlib.Omega.{arith}
use Rattle.arrays.proofs.FilledLaws.{filled_none, filled_more, filled-cut}
use Rattle.start.proofs.start.fill_jobs.Goals as goal

pub loop-j-init : goal.loop-j-init
loop-j-init g c = λ f are. filled_none f c.args.table.now

pub loop-j-preserved : goal.loop-j-preserved
loop-j-preserved g c = λ f are.
    filled_more f c.loop-j.j c.args.table.now (c.loop-j.invariant f are)
    (are c.loop-j.j c.rule.result (omega (arith, c.loop-j-test.true, c.min-j-end.ensures)) c.rule.ensures) c.put.ensures

pub returns : goal.returns
returns g c = λ f are.
    filled-cut f c.args.jobs _ c.loop-j.j c.args.table.now c.min-j-end.ensures c.loop-j.auto.j-end (omega arith)
    (c.loop-j.invariant f are)
