-- The set is what the rocks passed make of it.
use Prim.Native.Nat.{ℕ, ◌<◌}
use mathlib.Core.Path.{◌≡◌}
use Rattle.bits.specs.Bits.{is_set}
use Rattle.rocks.specs.SpreadArrays.{widen_of, Within}
use Rattle.rocks.proofs.spreading.widen.Given as goal

abbrev pub invariant-loop-r : goal.invariant-loop-r
invariant-loop-r l =
    Within 64 l.fn.n.rocks l.low l.high → (v : ℕ) → v < 64
    → is_set 64 l.set v ≡ widen_of l.low l.high l.dir (is_set 64 l.chosen) l.r v
