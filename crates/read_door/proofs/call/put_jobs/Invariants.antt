-- The numbers of the first i jobs stand from byte 544 on, and all else is as it was.
use Prim.Native.Nat.{◌+◌, ◌*◌}
use mathlib.Core.Path.{◌≡◌}
use Rattle.bits.specs.Little.{little_all}
use Rattle.fields.specs.Tests.{job_table}
use Rattle.frame.proofs.WriterSteps.{written}
use Rattle.read_door.specs.ReadDoor.{job_numbers}
use Rattle.read_door.proofs.call.put_jobs.Given as goal

abbrev pub invariant-loop-i : goal.invariant-loop-i
invariant-loop-i l =
    l.contents ≡ written l.initial.contents 544 (little_all 8 (job_numbers (job_table l.i l.minutes l.allowed)))
    (544 + 16 * l.i)
