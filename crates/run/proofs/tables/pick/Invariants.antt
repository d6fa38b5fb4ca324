-- The weights of the rocks passed are filled in.
use mathlib.Core.Path.{◌≡◌}
use lib.ListN.{get_or}
use Rattle.arrays.specs.Arrays.{filled}
use Rattle.run.proofs.tables.pick.Given as goal

abbrev pub invariant-loop-r : goal.invariant-loop-r
invariant-loop-r l = l.weight ≡ filled l.r (λ i. get_or l.amount (get_or l.job i 0) 0) l.initial.weight
