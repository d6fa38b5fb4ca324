-- The exploration from an empty one (StateRun).
use mathlib.Core.Path.{refl}
use Rattle.algorithm.specs.Run.{board_of}
use Rattle.run.proofs.StateRun.{orients}
use Rattle.run.proofs.state.State.orient.Goals as goal

pub returns : goal.returns
returns c = λ d m s amount pebble allowed place R M H B.
    orients d c.args.n c.args.graph.now amount pebble allowed R M m s _ _ place _ _ H refl
    (λ G owned reaches. c.explore-active.ensures (board_of d s) G owned reaches (c.clear.ensures H.own_room B))
    c.explore-active.type_inv
