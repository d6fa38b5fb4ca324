-- What the loop keeps is Passing of PageRun.
use Rattle.day.specs.Day.{Day}
use Rattle.weighing.specs.Weights.{Weighs}
use Rattle.page_check.specs.PageCheck.{NoneUnfit}
use Rattle.page_check.proofs.PageRun.{Passing}
use Rattle.page_check.proofs.check.first_open.Given as goal

abbrev pub invariant-loop-i : goal.invariant-loop-i
invariant-loop-i l = (d : Day) → Weighs d l.bay l.jobs l.minutes l.allowed l.booked → NoneUnfit d l.page → Passing d l.page l.i
