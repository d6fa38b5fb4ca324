-- The classes after the jobs passed (LeastRun).
use Rattle.day.specs.Day.{Day}
use Rattle.placing.specs.ClassArrays.{Holds}
use Rattle.placing.proofs.LeastRun.{Running}
use Rattle.placing.proofs.jobs.least_heavy.Given as goal

abbrev pub invariant-loop-j : goal.invariant-loop-j
invariant-loop-j l = (d : Day) → (H : Holds d l.bay l.jobs l.minutes l.allowed)
    → Running d l.bay l.jobs l.minutes l.allowed H l.j l.c l.labels l.extra
