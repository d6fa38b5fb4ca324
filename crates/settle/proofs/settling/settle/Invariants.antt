-- The array shows a state from which the rest of the loop gives what it gives from the start (SettleRun).
use Prim.Native.Nat.{ℕ, ◌-◌}
use mathlib.Core.List.{List}
use Rattle.algorithm.specs.Board.{Board, Directions}
use Rattle.rocks.specs.BoardArrays.{Rocks, Directed}
use Rattle.settle.proofs.SettleRun.{Settles}
use Rattle.settle.proofs.settling.settle.Given as goal

abbrev pub invariant-loop : goal.invariant-loop
invariant-loop l = (b : Board) (weight : List ℕ) (dirs : Directions) (R : Rocks b l.n l.low l.high weight) → Directed b dirs l.initial.dir → Settles b l.n l.low l.high weight R dirs (l.n.jobs - l.counter) l.dir
