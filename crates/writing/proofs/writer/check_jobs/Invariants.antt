-- The loop's invariant: the verdict on all jobs is that on the jobs from job i on.
use mathlib.Core.Path.{◌≡◌}
use Rattle.fields.specs.Tests.{job_table}
use Rattle.frame.specs.Writing.{jobs_verdict}
use Rattle.frame.proofs.WriterSteps.{verdict_from}
use Rattle.writing.proofs.writer.check_jobs.Given as goal

abbrev pub invariant-loop-i : goal.invariant-loop-i
invariant-loop-i l =
    jobs_verdict l.benches 0 (job_table l.n l.minutes l.allowed) ≡ verdict_from l.benches l.n l.minutes l.allowed l.i
