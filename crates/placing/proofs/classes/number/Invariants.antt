-- The entries passed are numbered.
use mathlib.Core.Path.{◌≡◌}
use Rattle.arrays.specs.Arrays.{filled}
use Rattle.placing.proofs.classes.number.Given as goal

abbrev pub invariant-loop-v : goal.invariant-loop-v
invariant-loop-v l = l.labels ≡ filled l.v (λ u. u) l.initial.labels
