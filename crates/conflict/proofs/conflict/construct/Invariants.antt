-- The arrays and the sets show a state from which the rest of the loop gives what it gives from the start (ConflictLoops).
use Prim.Native.Nat.{ℕ, ◌-◌}
use mathlib.Core.List.{List}
use Rattle.algorithm.specs.Board.{Board, Directions}
use Rattle.conflict.specs.ConflictArrays.{Opened}
use Rattle.conflict.proofs.ConflictLoops.{Builds}
use Rattle.rock_graph.specs.Graph.{RockGraph}
use Rattle.conflict.proofs.conflict.construct.Given as goal

abbrev pub invariant-loop : goal.invariant-loop
invariant-loop l =
    (b : Board) (dirs : Directions) (xs : List ℕ) (G : RockGraph b l.n l.graph)
    → Opened b l.n l.graph l.i dirs xs l.initial.dir l.initial.load l.initial.joined l.cand l.fakes l.neutral
    → Builds b l.n _ _ _ G.rocks G.few_rocks _ G.maps.incidence l.i dirs xs l.initial.joined (l.n.jobs - l.counter) l.dir
    l.load l.joined l.joining l.faking l.changed.benches l.changed.neutral
