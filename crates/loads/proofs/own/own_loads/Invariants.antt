-- The loads with the jobs passed.
use mathlib.Core.Path.{◌≡◌}
use Rattle.loads.specs.Loads.{loads_after}
use Rattle.loads.proofs.own.own_loads.Given as goal

abbrev pub invariant-loop-j : goal.invariant-loop-j
invariant-loop-j l = l.own ≡ loads_after l.j l.amount l.left l.place l.initial.own
