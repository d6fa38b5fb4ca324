-- From run to run, until the bounds meet (SearchRun).
use Prim.Native.Nat.{◌-◌}
use Rattle.day.specs.Day.{Day}
use Rattle.searching.specs.Searching.{LentSearch, Searching}
use Rattle.searching.proofs.searching.search.Given as goal

abbrev pub invariant-loop-kept : goal.invariant-loop-kept
invariant-loop-kept l = (d : Day) → LentSearch d l.h l.jobs l.minutes l.allowed l.booked → Searching d l.kept

abbrev pub decreases-loop-kept : goal.decreases-loop-kept
decreases-loop-kept l = l.kept.found.target - l.kept.low
