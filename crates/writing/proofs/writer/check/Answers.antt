-- The verdict is that of the first test that refuses; a head and jobs that pass have numbers that fit what the last test computes.
use mathlib.Core.Path.{◌∙◌}
use Rattle.std.proofs.lemmas.Result.{err_from_is_err_and}
use Rattle.checks.proofs.HyperEdges.{checked_fits}
use Rattle.frame.proofs.WriterSteps.{given, opening_fault, job_fault, all_checked, hyper_edges_ready}
use Rattle.writing.proofs.writer.check.Goals as goal

pub returns-in_err-check_opening : goal.returns-in_err-check_opening
returns-in_err-check_opening c =
    let a = c.args in
    let what = given a.h a.booked.now a.n a.minutes.now a.allowed.now in
    let p = err_from_is_err_and c.from_residual.result c.from_residual.ensures.1 in
    rw (p.1, p.2) (opening_fault what c.check_opening.ensures c.in_err-check_opening.was)

pub returns-in_err-check_jobs : goal.returns-in_err-check_jobs
returns-in_err-check_jobs c =
    let a = c.args in
    let what = given a.h a.booked.now a.n a.minutes.now a.allowed.now in
    let exit = c.from_residual-in_err-check_jobs in
    let p = err_from_is_err_and exit.result exit.ensures.1 in
    rw (p.1, p.2)
    (job_fault what c.check_opening.ensures c.in_ok-check_opening.was c.check_jobs.ensures c.in_err-check_jobs.was)

pub returns : goal.returns
returns c =
    let a = c.args in
    let what = given a.h a.booked.now a.n a.minutes.now a.allowed.now in
    let opening = c.check_opening.ensures in
    let jobs = c.check_jobs.ensures in
    let ready = hyper_edges_ready a.h a.booked.now a.n a.minutes.now a.allowed.now
    opening c.in_ok-check_opening.was jobs c.in_ok-check_jobs.was in
    all_checked what opening c.in_ok-check_opening.was jobs c.in_ok-check_jobs.was
    (c.check_hyper_edges.ensures ∙ checked_fits a.minutes.now a.allowed.now a.n a.h ready)
