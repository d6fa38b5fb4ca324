-- A long job, or the rest (DayRun).
use Rattle.decisions.proofs.DayRun.{long_decided, not_long}
use Rattle.deciding.proofs.deciding.decide.Goals as goal

pub returns-in-Some : goal.returns-in-Some
returns-in-Some c d L =
    rw c.without_places.ensures
    (long_decided d c.args.jobs c.args.minutes.now c.args.allowed.now L.fields c.args.h.target L.target_is
    c.long_job.ensures c.in-Some.is)

pub returns : goal.returns
returns c d L =
    c.decide_short.ensures d L
    (not_long d c.args.jobs c.args.minutes.now c.args.allowed.now L.fields c.args.h.target L.target_is
    c.long_job.ensures c.in_default.is)
