-- `judge_job`: at each return the tests that led there decide which of the faults 4 to 6 and 9 to 11 is first.
use Rattle.std.specs.Prelude.{Ok}
use Rattle.std.proofs.lemmas.Result.{err_from_is_err_and}
use Rattle.judging.specs.declared.judge.Frame.TheVariants.{Job}
use Rattle.fields.specs.Tests.{Verdict, first_fault, job_faults}
use borrow.Author.Tests.{eq-eqb, ne_eqb}
use mathlib.Core.Path.{sym, ap, ◌∙◌}
use lib.ListN.{length}
use Rattle.bits.specs.Layout.{field}
use Rattle.fields.specs.Format.{job_layout, job_of}
use Rattle.judging.specs.Steps.{frame_of, sound}
use Rattle.judging.specs.FrameTests.{frame_faults}
use Rattle.judging.proofs.StageLaws.{misplaced-unless_open}
use Rattle.judging.proofs.judge.judge_job.Goals as goal

pub returns-then-body-ne-JOB_LENGTH : goal.returns-then-body-ne-JOB_LENGTH
unfolding frame_of frame_faults
returns-then-body-ne-JOB_LENGTH c =
    let a = c.args in
    rw (c.in-Open.is, ne_eqb (length a.body.now) 11 c.if-body-ne-JOB_LENGTH.true)

pub returns-then-job_spare-ne0 : goal.returns-then-job_spare-ne0
unfolding frame_of frame_faults
returns-then-job_spare-ne0 c =
    let a = c.args in
    let body = a.body.now in
    rw (
      c.in-Open.is,
      eq-eqb (length body) 11 c.if-body-ne-JOB_LENGTH.false,
      ne_eqb (field job_layout 2 body) 0 (λ e. c.if-job_spare-ne0.true (c.job_spare.ensures ∙ e)),
    )

pub returns-in_err-check_job : goal.returns-in_err-check_job
unfolding frame_of frame_faults
returns-in_err-check_job c =
    let at-if2 = c.if-job_spare-ne0 in
    let at-spare = c.job_spare in
    let at-if1 = c.if-body-ne-JOB_LENGTH in
    let a = c.args in
    let body = a.body.now in
    let read = c.read_job-j.ensures in
    let p = err_from_is_err_and c.from_residual.result c.from_residual.ensures.1 in
    rw (
      p.1,
      p.2,
      c.in-Open.is,
      eq-eqb (length body) 11 at-if1.false,
      eq-eqb (field job_layout 2 body) 0 (sym at-spare.ensures ∙ at-if2.false),
    )
    (ap (λ (v : Verdict). sound v (Job (job_of body)))
    (sym c.in_err-check_job.was ∙ c.check_job.ensures
    ∙ ap (λ x. first_fault (job_faults a.benches a.n x a.at)) read))

pub returns : goal.returns
unfolding frame_of frame_faults
returns c =
    let at-if2 = c.if-job_spare-ne0 in
    let at-spare = c.job_spare in
    let at-if1 = c.if-body-ne-JOB_LENGTH in
    let a = c.args in
    let body = a.body.now in
    let read = c.read_job-j.ensures in
    rw (
      c.in-Open.is,
      eq-eqb (length body) 11 at-if1.false,
      eq-eqb (field job_layout 2 body) 0 (sym at-spare.ensures ∙ at-if2.false),
    )
    (ap (λ j. Ok (Job j)) read
    ∙ ap (λ (v : Verdict). sound v (Job (job_of body)))
    (sym c.in_ok-check_job.was ∙ c.check_job.ensures
    ∙ ap (λ x. first_fault (job_faults a.benches a.n x a.at)) read))

pub returns-in_default : goal.returns-in_default
unfolding frame_of frame_faults
returns-in_default c =
    let a = c.args in
    rw (misplaced-unless_open a.stage a.n c.in_default.not-Open).0
