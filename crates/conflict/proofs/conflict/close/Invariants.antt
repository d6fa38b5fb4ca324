-- The array and the sets show a state from which the rest of the loop gives what it gives from the start (ConflictLoops).
use Prim.Native.Nat.{ℕ, ◌-◌, ◌≤◌}
use mathlib.Core.List.{List}
use Rattle.algorithm.specs.Board.{Board, Directions}
use Rattle.rocks.specs.BoardArrays.{Directed, Rounds}
use Rattle.conflict.specs.ConflictArrays.{joins_at}
use Rattle.forced.specs.SetArrays.{Covers}
use Rattle.conflict.proofs.ConflictLoops.{Closes}
use Rattle.rock_graph.specs.Graph.{lows, highs, RockGraph}
use Rattle.conflict.proofs.conflict.close.Given as goal

abbrev pub invariant-loop : goal.invariant-loop
invariant-loop l =
    (b : Board) (dirs : Directions) (xs : List ℕ) (G : RockGraph b l.n l.graph) → l.i ≤ b.benches
    → Covers l.n (lows l.graph) (highs l.graph)
    (joins_at l.n.benches (lows l.graph) (highs l.graph) l.dir l.initial.joined) l.cand
    → Directed b dirs l.dir → Rounds b xs l.initial.joined
    → Closes b l.n _ _ _ G.rocks G.few_rocks _ G.maps.incidence l.i dirs xs l.dir l.initial.joined
    (l.n.benches - l.counter) l.cands l.grown l.joined
