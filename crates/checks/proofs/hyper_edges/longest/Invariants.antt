-- `longest`: w is the greatest of the entries passed.
use mathlib.Core.Path.{◌≡◌}
use lib.ListN.{get_or}
use Rattle.sums.specs.Sum.{largest}
use Rattle.fields.specs.Tests.{no_minutes}
use Rattle.checks.proofs.hyper_edges.longest.Given as goal

abbrev pub invariant-loop-n : goal.invariant-loop-n
invariant-loop-n l = l.w ≡ largest l.n (λ i. get_or l.minutes i no_minutes)
