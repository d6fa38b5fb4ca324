-- The classes after the jobs passed (LeastRun).
use mathlib.Core.Path.{◌≡◌, refl}
use Rattle.std.specs.Prelude.{None}
use borrow.Author.Rules.{rules}
use native.Mathlib.Omega.{arith}
use Rattle.placing.proofs.LeastRun.{running_starts, its_tried, running_more, ends_stuck, ends-least}
use Rattle.placing.proofs.jobs.least_heavy.Goals as goal

pub loop-j-init : goal.loop-j-init
loop-j-init c d H =
    running_starts d c.args.bay c.args.jobs c.args.minutes.now c.args.allowed.now H 64 refl c.number.ensures

pub returns-in_err-c : goal.returns-in_err-c
returns-in_err-c c d H =
    let R = c.loop-j.invariant d H in
    let none : c.from_residual.result ≡ None = search rules in
    rw none
    (ends_stuck d c.args.bay c.args.jobs c.args.minutes.now c.args.allowed.now H c.loop-j.j c.loop-j.c c.loop-j.labels
    c.loop-j.extra R (omega arith)
    (its_tried d c.args.bay c.args.jobs c.args.minutes.now c.args.allowed.now H c.loop-j.j c.loop-j.c c.loop-j.labels
    c.loop-j.extra R (omega arith) c.at.ensures c.at-in-loop-j.ensures c.put_job.ensures)
    c.in_err-c.was)

pub loop-j-preserved : goal.loop-j-preserved
loop-j-preserved c d H =
    let R = c.loop-j.invariant d H in
    running_more d c.args.bay c.args.jobs c.args.minutes.now c.args.allowed.now H c.loop-j.j c.loop-j.c c.loop-j.labels
    c.loop-j.extra R (omega arith)
    (its_tried d c.args.bay c.args.jobs c.args.minutes.now c.args.allowed.now H c.loop-j.j c.loop-j.c c.loop-j.labels
    c.loop-j.extra R (omega arith) c.at.ensures c.at-in-loop-j.ensures c.put_job.ensures)
    c.in_ok-c.c c.in_ok-c.was

pub returns : goal.returns
returns c d H =
    ends-least d c.args.bay c.args.jobs c.args.minutes.now c.args.allowed.now H c.loop-j.j c.loop-j.c c.loop-j.labels
    c.loop-j.extra (c.loop-j.invariant d H) (omega arith) (omega arith)
