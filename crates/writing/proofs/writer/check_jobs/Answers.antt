-- The loop's invariant: the verdict on all jobs is that on the jobs from job i on.
use mathlib.Core.Path.{sym, ◌∙◌}
use Rattle.std.proofs.lemmas.Result.{err_from_is_err_and}
use Rattle.frame.proofs.WriterSteps.{jobs_sound, jobs_fault, jobs_over}
use Rattle.writing.proofs.writer.check_jobs.Goals as goal

pub returns-in_err-check_job : goal.returns-in_err-check_job
returns-in_err-check_job c =
    let a = c.args in
    let fault = jobs_fault a.benches a.n a.minutes.now a.allowed.now c.loop-i.i _
    c.loop-i-test.true c.minutes_at.ensures
    c.allowed_at.ensures c.check_job.ensures c.in_err-check_job.was in
    let p = err_from_is_err_and c.from_residual.result c.from_residual.ensures.1 in
    rw (p.1, p.2) (sym (c.loop-i.invariant ∙ fault))

pub loop-i-preserved : goal.loop-i-preserved
loop-i-preserved c =
    let a = c.args in
    let sound = jobs_sound a.benches a.n a.minutes.now a.allowed.now c.loop-i.i _
    c.loop-i-test.true c.minutes_at.ensures
    c.allowed_at.ensures c.check_job.ensures c.in_ok-check_job.was in
    c.loop-i.invariant ∙ sound

pub returns : goal.returns
returns c =
    let a = c.args in
    sym (c.loop-i.invariant ∙ jobs_over a.benches a.n a.minutes.now a.allowed.now c.loop-i.i
    c.loop-i-test.false)
