-- The arrays show a state from which the rest of the peeling gives what it gives from the start (StartRun).
use Prim.Native.Nat.{◌-◌}
use mathlib.Core.List.{map}
use Rattle.day.specs.Day.{Day}
use Rattle.algorithm.specs.Start.{State}
use Rattle.rocks.specs.DayArrays.{DayRocks, Cycles}
use Rattle.start.specs.StartArrays.{JobsOf, Placed}
use Rattle.start.proofs.StartRun.{Peeling}
use Rattle.start.proofs.peeling.peel.Given as goal

abbrev pub invariant-loop : goal.invariant-loop
invariant-loop g l =
    (d : Day) (s : State) → DayRocks d l.n l.low l.high → JobsOf d l.job
    → Cycles d (map g.S.Standing.balance l.balance) → Placed d s l.initial.left l.initial.place
    → Peeling d s (l.n.jobs - l.counter) l.left l.place
