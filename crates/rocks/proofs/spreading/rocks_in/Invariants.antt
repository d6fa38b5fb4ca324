-- k counts the rocks passed.
use mathlib.Core.Path.{◌≡◌}
use Rattle.sums.specs.Sum.{count}
use Rattle.bits.specs.Bits.{is_set}
use Rattle.rocks.specs.SpreadArrays.{inside_at}
use Rattle.rocks.proofs.spreading.rocks_in.Given as goal

abbrev pub invariant-loop-r : goal.invariant-loop-r
invariant-loop-r l = l.k ≡ count l.r (inside_at l.low l.dir (is_set 64 l.chosen))
