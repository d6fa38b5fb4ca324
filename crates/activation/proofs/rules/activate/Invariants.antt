-- Who left has the round, and the array shows a state from which the rest of the loop gives what it gives from the start (ActiveSets, ActivateRun).
use Prim.Native.Nat.{ℕ, ◌-◌, ◌≤◌}
use mathlib.Core.List.{List}
use Rattle.algorithm.specs.Board.{Board, Directions}
use Rattle.rocks.specs.BoardArrays.{Directed, Owned, Rounds}
use Rattle.activation.specs.ActivationArrays.{Waits}
use Rattle.activation.proofs.ActivateRun.{Activating}
use Rattle.activation.proofs.ActiveSets.{Leaving}
use Rattle.rock_graph.specs.Graph.{RockGraph}
use Rattle.activation.proofs.rules.activate.Given as goal

abbrev pub invariant-loop : goal.invariant-loop
invariant-loop l =
    Leaving l.wait l.i l.initial.level l.left l.level
    × ((b : Board) (dirs : Directions) (xs ys : List ℕ) (G : RockGraph b l.n l.graph) → l.i ≤ l.n.benches
    → Waits l.n l.joined l.initial.level l.wait → (O : Owned b l.own) (D : Directed b dirs l.dir) (X : Rounds b xs l.joined)
    → Rounds b ys l.initial.level
    → Activating b l.n _ _ _ l.own G.rocks O dirs l.dir D xs l.joined X l.i ys (l.n.benches - l.counter) l.level)
