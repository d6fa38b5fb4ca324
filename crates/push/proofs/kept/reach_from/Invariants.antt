-- Job by job, as long as the set may grow.
use Prim.Native.Nat.{ℕ, ◌<◌}
use mathlib.Core.Path.{◌≡◌}
use Rattle.sums.specs.Search.{any}
use Rattle.bits.specs.Bits.{is_set}
use Rattle.push.specs.KeptArrays.{lies_at}
use Rattle.push.proofs.kept.reach_from.Given as goal

abbrev pub invariant-loop-j : goal.invariant-loop-j
invariant-loop-j l = (v : ℕ) → v < 64 → is_set 64 l.set v ≡ any l.j (lies_at l.choice l.place l.u v)
