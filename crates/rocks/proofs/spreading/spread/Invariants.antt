-- The set is in the closure and grows with each pass, or the pass is the last (SpreadRun).
use Prim.Native.Nat.{ℕ}
use mathlib.Core.Bool.{Bool}
use Rattle.rocks.specs.SpreadArrays.{Within, Shows}
use Rattle.rocks.proofs.SpreadRun.{Spreading}
use Rattle.rocks.proofs.spreading.spread.Given as goal

abbrev pub invariant-loop : goal.invariant-loop
invariant-loop l =
    (S : ℕ → Bool) (ends : Within l.n.benches l.n.rocks l.low l.high) → Shows l.n.benches S l.chosen
    → Spreading l.n.benches l.n.rocks l.low l.high l.dir ends S l.counter l.set
