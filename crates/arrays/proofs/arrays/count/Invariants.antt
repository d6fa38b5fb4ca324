-- k counts the entries passed.
use mathlib.Core.Path.{◌≡◌}
use mathlib.Core.Bool.{false}
use lib.ListN.{get_or}
use Rattle.sums.specs.Sum.{count}
use Rattle.arrays.proofs.arrays.count.Given as goal

abbrev pub invariant-loop-i : goal.invariant-loop-i
invariant-loop-i l = l.k ≡ count l.i (λ j. get_or l.t j false)
