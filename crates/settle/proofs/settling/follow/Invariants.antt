-- Array and set show a state from which the rest of the loop gives what it gives from the start (SettleRun).
use Prim.Native.Nat.{ℕ, ◌-◌}
use mathlib.Core.Bool.{Bool}
use mathlib.Core.List.{List}
use Rattle.algorithm.specs.Board.{Board, Directions}
use Rattle.rocks.specs.BoardArrays.{Rocks, Directed}
use Rattle.settle.specs.SettleArrays.{ShowsMarks}
use Rattle.settle.proofs.SettleRun.{Following}
use Rattle.settle.proofs.settling.follow.Given as goal

abbrev pub invariant-loop : goal.invariant-loop
invariant-loop l = (b : Board) (weight : List ℕ) (dirs : Directions) (ms : List Bool) (R : Rocks b l.n l.low l.high weight) → Directed b dirs l.initial.dir → ShowsMarks b ms l.first → Following b l.n l.low l.high weight R dirs ms (l.n.jobs - l.counter) l.dir l.marked
