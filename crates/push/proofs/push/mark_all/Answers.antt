-- The sets hold the ends of the rocks passed.
use native.Mathlib.Omega.{arith}
use Rattle.rocks.specs.RockArrays.{child_at}
use Rattle.push.specs.PushArrays.{heavy_at}
use Rattle.push.proofs.ReceiverLaws.{marks_none, marks_more, marks_all}
use Rattle.rock_graph.specs.Graph.{lows, highs, weights}
use Rattle.push.proofs.push.mark_all.Goals as goal

pub loop-r-init : goal.loop-r-init
loop-r-init c = (
  marks_none (lows c.args.graph.now) (highs c.args.graph.now)
      (child_at c.args.n.benches (lows c.args.graph.now) (highs c.args.graph.now) c.args.dir.now c.args.joined.now),
  marks_none (lows c.args.graph.now) (highs c.args.graph.now)
      (heavy_at c.args.n.benches c.args.n.limit (lows c.args.graph.now) (highs c.args.graph.now)
      (weights c.args.graph.now) c.args.own.now c.args.dir.now c.args.joined.now),
)

pub loop-r-preserved : goal.loop-r-preserved
loop-r-preserved c = (
  marks_more (lows c.args.graph.now) (highs c.args.graph.now)
      (child_at c.args.n.benches (lows c.args.graph.now) (highs c.args.graph.now) c.args.dir.now c.args.joined.now)
      c.loop-r.r c.loop-r.m.children c.mark_rock-m.result.children c.loop-r.invariant.0 c.mark_rock-m.ensures.0,
  marks_more (lows c.args.graph.now) (highs c.args.graph.now)
      (heavy_at c.args.n.benches c.args.n.limit (lows c.args.graph.now) (highs c.args.graph.now)
      (weights c.args.graph.now) c.args.own.now c.args.dir.now c.args.joined.now)
      c.loop-r.r c.loop-r.m.heavy c.mark_rock-m.result.heavy c.loop-r.invariant.1 c.mark_rock-m.ensures.1,
)

pub returns : goal.returns
returns c = (
  marks_all (lows c.args.graph.now) (highs c.args.graph.now)
      (child_at c.args.n.benches (lows c.args.graph.now) (highs c.args.graph.now) c.args.dir.now c.args.joined.now)
      c.loop-r.r c.args.n.rocks c.loop-r.m.children c.loop-r.auto.r-end (omega arith) c.loop-r.invariant.0,
  marks_all (lows c.args.graph.now) (highs c.args.graph.now)
      (heavy_at c.args.n.benches c.args.n.limit (lows c.args.graph.now) (highs c.args.graph.now)
      (weights c.args.graph.now) c.args.own.now c.args.dir.now c.args.joined.now)
      c.loop-r.r c.args.n.rocks c.loop-r.m.heavy c.loop-r.auto.r-end (omega arith) c.loop-r.invariant.1,
)
