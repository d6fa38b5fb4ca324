-- The entries passed are filled in.
use mathlib.Core.Path.{◌≡◌}
use Rattle.arrays.specs.Arrays.{filled}
use Rattle.arrays.proofs.arrays.fill.Given as goal

abbrev pub invariant-loop-i : goal.invariant-loop-i
invariant-loop-i l = l.t ≡ filled l.i (λ k. l.v) l.initial.t
