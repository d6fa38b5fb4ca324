-- Who left has the round, and the array shows a state from which the rest of the loop gives what it gives from the start (ActiveSets, ActivateRun).
use Prim.Native.Nat.{◌+◌, ◌-◌}
use native.Mathlib.Omega.{arith}
use mathlib.Core.Path.{ap, ◌∙◌}
use lib.ListN.{length, length-set}
use Rattle.activation.specs.ActivationArrays.{activates_at}
use Rattle.activation.proofs.ActivateRun.{activating_spent}
use Rattle.activation.proofs.ActiveSets.{leaving_goes_on, active_goes_on, active_ends}
use Rattle.rock_graph.specs.Graph.{incidents, lows, highs, weights}
use Rattle.activation.proofs.rules.activate.Goals as goal

pub returns-in_default : goal.returns-in_default
returns-in_default c = (
  c.loop.invariant.0.gone,
  λ b dirs xs ys G t W O D X Y.
      active_ends b c.args.n _ _ _ c.args.own.now G.rocks G.few_rocks _ G.maps.incidence O dirs c.args.dir.now D xs
      c.args.joined.now X c.args.i c.args.wait t c.args.level.now ys Y W (c.loop.invariant.1 b dirs xs ys G t W O D X Y)
      c.loop.left c.loop.invariant.0 c.in_default.ensures,
)

pub loop-preserved : goal.loop-preserved
loop-preserved c = (
  leaving_goes_on c.args.wait c.args.i c.args.level.now (incidents c.args.graph.now)
      (activates_at c.args.n (lows c.args.graph.now) (highs c.args.graph.now) (weights c.args.graph.now) c.args.own.now
      c.args.dir.now c.args.joined.now c.loop.level) c.loop.left c.in-Some.v c.with.result c.less-left.result c.loop.level
      c.loop.invariant.0 c.in-Some.ensures c.with.ensures c.less-left.ensures c.put.ensures
      (ap length c.put.ensures ∙ simp length-set c.loop.invariant.0.long),
  λ b dirs xs ys G t W O D X Y.
      active_goes_on b c.args.n _ _ _ c.args.own.now G.rocks G.few_rocks _ G.maps.incidence O dirs c.args.dir.now D xs
      c.args.joined.now X c.args.i c.args.wait t c.args.level.now ys Y W (c.loop.invariant.1 b dirs xs ys G t W O D X Y)
      c.loop.left c.loop.invariant.0 c.in-Some.v (c.args.n.benches - (c.loop.counter + 1)) c.in-Some.ensures (omega arith)
      c.put.ensures,
)

pub returns-after-loop : goal.returns-after-loop
returns-after-loop c = (
  c.loop.invariant.0.gone,
  λ b dirs xs ys G t W O D X Y.
      activating_spent b c.args.n _ _ _ c.args.own.now G.rocks O dirs c.args.dir.now D xs c.args.joined.now X
      (c.loop.invariant.1 b dirs xs ys G t W O D X Y) (omega arith),
)
