-- The rocks passed have their other end in the set.
use Prim.Native.Nat.{◌<◌}
use mathlib.Core.Path.{◌≡◌}
use mathlib.Core.Bool.{true}
use Rattle.bits.specs.Bits.{is_set}
use Rattle.rocks.specs.RockArrays.{other_at}
use Rattle.sets.proofs.SetRun.{Visited}
use Rattle.rock_graph.proofs.maps.others.Given as goal

abbrev pub invariant-loop-left : goal.invariant-loop-left
invariant-loop-left l = Visited l.set (λ r. other_at l.low l.high r l.v < 64 → is_set 64 l.found (other_at l.low l.high r l.v) ≡ true) l.left

abbrev pub decreases-loop-left : goal.decreases-loop-left
decreases-loop-left l = l.left
