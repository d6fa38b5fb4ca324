-- The loop's invariant: the frames of the first i jobs stand from byte start on, and all else is as it was.
use Prim.Native.Nat.{◌+◌, ◌*◌}
use mathlib.Core.Path.{◌≡◌}
use Rattle.fields.specs.Format.{job_frames}
use Rattle.fields.specs.Tests.{job_table}
use Rattle.frame.proofs.WriterSteps.{written}
use Rattle.writing.proofs.writer.put_jobs.Given as goal

abbrev pub invariant-loop-i : goal.invariant-loop-i
invariant-loop-i l =
    l.out ≡ written l.initial.out l.start (job_frames (job_table l.i l.minutes l.allowed)) (l.start + 14 * l.i)
