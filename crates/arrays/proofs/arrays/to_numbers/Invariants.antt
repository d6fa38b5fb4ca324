-- The entries passed are filled in.
use mathlib.Core.Path.{◌≡◌}
use lib.ListN.{get_or}
use Rattle.arrays.specs.Arrays.{filled}
use Rattle.arrays.proofs.arrays.to_numbers.Given as goal

abbrev pub invariant-loop-i : goal.invariant-loop-i
invariant-loop-i g l = l.to ≡ filled l.i (λ k. g.T.Number.number (get_or l.from k g.T.Entry.blank)) l.initial.to
