-- By where the rock leads.
use Rattle.push.proofs.ReceiverLaws.{to_low, to_high}
use Rattle.rock_graph.specs.Graph.{lows, highs, weights}
use Rattle.push.proofs.push.mark_rock.Goals as goal

pub returns-then-d-saturating_add : goal.returns-then-d-saturating_add
returns-then-d-saturating_add c =
    to_low c.args.n.benches c.args.n.limit (lows c.args.graph.now) (highs c.args.graph.now) (weights c.args.graph.now)
    c.args.own.now c.args.dir.now c.args.joined.now c.args.m.children c.args.m.heavy c.args.r c.at-d.ensures c.low-lo.ensures
    c.high-hi.ensures c.mark_edge.result.children c.mark_edge.result.heavy c.weight-w.ensures
    c.saturating_add.ensures c.if-d-saturating_add.true c.mark_edge.ensures

pub returns-then-d-saturating_add-2 : goal.returns-then-d-saturating_add-2
returns-then-d-saturating_add-2 c =
    to_high c.args.n.benches c.args.n.limit (lows c.args.graph.now) (highs c.args.graph.now) (weights c.args.graph.now)
    c.args.own.now c.args.dir.now c.args.joined.now c.args.m.children c.args.m.heavy c.args.r c.at-d.ensures c.low-lo.ensures
    c.high-hi.ensures c.mark_edge-then-d-saturating_add-2.result.children
    c.mark_edge-then-d-saturating_add-2.result.heavy c.weight-w.ensures c.saturating_add.ensures
    c.if-d-saturating_add.false c.saturating_add-2.ensures c.if-d-saturating_add-2.true
    c.mark_edge-then-d-saturating_add-2.ensures
