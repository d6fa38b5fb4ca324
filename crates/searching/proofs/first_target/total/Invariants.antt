-- The sum of the entries passed.
use mathlib.Core.Path.{◌≡◌}
use Rattle.searching.specs.Searching.{total_of}
use Rattle.searching.proofs.first_target.total.Given as goal

abbrev pub invariant-loop-i : goal.invariant-loop-i
invariant-loop-i l = l.sum ≡ total_of l.i l.t
