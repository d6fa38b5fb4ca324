-- v is the lowest end of the rocks passed.
use mathlib.Core.Path.{◌≡◌}
use Rattle.bits.specs.Bits.{is_set}
use Rattle.rocks.specs.RockArrays.{lowest_end}
use Rattle.settle.specs.SettleArrays.{follows_at}
use Rattle.settle.proofs.settling.first_neutral.Given as goal

abbrev pub invariant-loop-r : goal.invariant-loop-r
invariant-loop-r l = l.v ≡ lowest_end l.n.benches l.r l.low l.high (follows_at l.dir (is_set 64 l.marked))
