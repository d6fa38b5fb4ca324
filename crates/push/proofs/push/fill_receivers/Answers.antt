-- The sets hold the benches passed.
use native.Mathlib.Omega.{arith}
use Rattle.push.specs.PushArrays.{receives_at}
use Rattle.push.proofs.ReceiverLaws.{levels_none, levels_more}
use Rattle.push.proofs.PushRun.{levels_end}
use Rattle.rock_graph.specs.Graph.{lows, highs, weights}
use Rattle.push.proofs.push.fill_receivers.Goals as goal

pub loop-v-init : goal.loop-v-init
loop-v-init c =
    levels_none c.args.level.now (receives_at c.args.n.benches c.args.n.limit c.args.load.now c.args.level.now
    c.mark_all-m.result.children c.mark_all-m.result.heavy) c.args.receivers.now

pub loop-v-preserved : goal.loop-v-preserved
loop-v-preserved c =
    levels_more c.args.level.now (receives_at c.args.n.benches c.args.n.limit c.args.load.now c.args.level.now
    c.mark_all-m.result.children c.mark_all-m.result.heavy) c.args.receivers.now c.loop-v.v c.loop-v.receivers
    c.add_receiver.new.receivers c.loop-v.auto.receivers c.loop-v.invariant c.add_receiver.ensures

pub returns : goal.returns
returns c = λ b x G O S none.
    levels_end b c.args.n (lows c.args.graph.now) (highs c.args.graph.now) (weights c.args.graph.now) G.rocks x
    c.args.own.now c.args.dir.now c.args.load.now c.args.joined.now c.args.level.now O S c.mark_all-m.result.children
    c.mark_all-m.result.heavy c.mark_all-m.ensures.0 c.mark_all-m.ensures.1 c.loop-v.v c.args.receivers.now
    c.loop-v.receivers (omega arith) none c.loop-v.auto.receivers c.loop-v.invariant
