-- So many of the rocks passed are left at v.
use mathlib.Core.Path.{◌≡◌}
use Rattle.sums.specs.Sum.{count}
use Rattle.start.specs.StartArrays.{left_rock}
use Rattle.start.proofs.peeling.count_left.Given as goal

abbrev pub invariant-loop-r : goal.invariant-loop-r
invariant-loop-r l = l.k ≡ count l.r (left_rock l.job l.low l.high l.left l.v)
