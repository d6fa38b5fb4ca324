-- Number 17, then long (CheckRun).
use Rattle.set_check.proofs.CheckRun.{by_empty, by_foreign, by_long, by_none}
use Rattle.set_check.proofs.check.first_answer.Goals as goal

pub returns-then-set-eq0 : goal.returns-then-set-eq0
returns-then-set-eq0 c d allowed F eb et = by_empty d c.args.set c.if-set-eq0.true

pub returns-in-Some : goal.returns-in-Some
returns-in-Some c d allowed F eb et = by_foreign d c.args.set c.if-set-eq0.false c.foreign.ensures eb c.in-Some.is

pub returns-in-Some-long_job : goal.returns-in-Some-long_job
returns-in-Some-long_job c d allowed F eb et =
    by_long d c.args.set c.if-set-eq0.false c.foreign.ensures eb c.in_default.is c.args.jobs c.args.minutes.now allowed F
    et c.long_job.ensures c.in-Some-long_job.is

pub returns : goal.returns
returns c d allowed F eb et =
    by_none d c.args.set c.if-set-eq0.false c.foreign.ensures eb c.in_default.is c.args.jobs c.args.minutes.now allowed F
    et c.long_job.ensures c.in_default-long_job.is
