-- The page's faults, then long (PageRun).
use Rattle.page_check.proofs.PageRun.{by_fault, by_long, by_none}
use Rattle.page_check.proofs.check.first_answer.Goals as goal

pub returns-in-Err : goal.returns-in-Err
returns-in-Err c d allowed F eb et = by_fault d c.args.page.now eb c.page_verdict.ensures c.in-Err.is

pub returns-in-Some : goal.returns-in-Some
returns-in-Some c d allowed F eb et =
    by_long d c.args.page.now eb c.page_verdict.ensures c.in_default.is c.args.jobs c.args.minutes.now allowed F et
    c.long_job.ensures c.in-Some.is

pub returns : goal.returns
returns c d allowed F eb et =
    by_none d c.args.page.now eb c.page_verdict.ensures c.in_default.is c.args.jobs c.args.minutes.now allowed F et
    c.long_job.ensures c.in_default-long_job.is
