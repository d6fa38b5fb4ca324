-- Turn by turn (StateRun).
use mathlib.Core.Path.{◌∙◌}
use native.Mathlib.Omega.{arith}
use Rattle.rock_graph.specs.Graph.{lows, highs, weights}
use Rattle.explore.specs.ExploreArrays.{Benchwise}
use Rattle.run.proofs.HeldLaws.{ready_table}
use Rattle.run.proofs.PlaceLaws.{chosen}
use Rattle.run.proofs.StateRun.{starts, turning_calm, turning_stuck, turning_next, turning_spent}
use Rattle.turns.proofs.loops.turns.Goals as goal

pub returns-then-s-eq0 : goal.returns-then-s-eq0
returns-then-s-eq0 c = λ d R₀ H sized fuel.
    let graph = c.new-graph.result in
    let tabled = c.new-graph.ensures in
    let R = ready_table d c.args.n c.args.low.now c.args.high.now c.args.weight.now c.args.amount.now c.args.pebble.now
    c.args.allowed.now graph R₀ tabled in
    let T = c.loop.invariant.turning d R sized (starts d c.args.n (lows graph) (highs graph) (weights graph)
    c.args.amount.now c.args.pebble.now c.args.allowed.now R c.args.first _ _ _ fuel c.saturating_add-end.ensures H) in
    let room : Benchwise c.loop.dir c.loop.load c.loop.joined c.loop.level = record {
      dir_room = c.loop.auto.dir ∙ sized;
      load_room = c.loop.invariant.load_room;
      joined_room = c.loop.invariant.joined_room;
      level_room = c.loop.invariant.level_room;
    } in
    let O = c.orient-s.ensures d T.moves T.state c.args.amount.now c.args.pebble.now c.args.allowed.now _ R tabled.maps T.holds room in
    turning_calm d c.args.n (lows graph) (highs graph) (weights graph) c.args.amount.now c.args.pebble.now c.args.allowed.now R T O c.if-s-eq0.true

pub returns-in_default : goal.returns-in_default
returns-in_default c = λ d R₀ H sized fuel.
    let graph = c.new-graph.result in
    let tabled = c.new-graph.ensures in
    let R = ready_table d c.args.n c.args.low.now c.args.high.now c.args.weight.now c.args.amount.now c.args.pebble.now
    c.args.allowed.now graph R₀ tabled in
    let T = c.loop.invariant.turning d R sized (starts d c.args.n (lows graph) (highs graph) (weights graph)
    c.args.amount.now c.args.pebble.now c.args.allowed.now R c.args.first _ _ _ fuel c.saturating_add-end.ensures H) in
    let room : Benchwise c.loop.dir c.loop.load c.loop.joined c.loop.level = record {
      dir_room = c.loop.auto.dir ∙ sized;
      load_room = c.loop.invariant.load_room;
      joined_room = c.loop.invariant.joined_room;
      level_room = c.loop.invariant.level_room;
    } in
    let O = c.orient-s.ensures d T.moves T.state c.args.amount.now c.args.pebble.now c.args.allowed.now _ R tabled.maps T.holds room in
    let C = chosen c.args.n.jobs c.args.pebble.now c.args.allowed.now (omega (arith, R.jobs, R.few_jobs)) c.choose.ensures in
    let P = c.push.ensures d T.moves T.state c.args.pebble.now c.args.allowed.now R tabled.maps C O.0 O.1 in
    turning_stuck d c.args.n (lows graph) (highs graph) (weights graph) c.args.amount.now c.args.pebble.now c.args.allowed.now R T O P c.in_default.is

pub loop-preserved : goal.loop-preserved
loop-preserved c = record {
  load_room = c.orient-s.auto.load ∙ c.loop.invariant.load_room;
  joined_room = c.orient-s.auto.joined ∙ c.loop.invariant.joined_room;
  level_room = c.orient-s.auto.level ∙ c.loop.invariant.level_room;
  turning = λ d R sized T₀.
      let graph = c.new-graph.result in
      let tabled = c.new-graph.ensures in
      let T = c.loop.invariant.turning d R sized T₀ in
      let room : Benchwise c.loop.dir c.loop.load c.loop.joined c.loop.level = record {
        dir_room = c.loop.auto.dir ∙ sized;
        load_room = c.loop.invariant.load_room;
        joined_room = c.loop.invariant.joined_room;
        level_room = c.loop.invariant.level_room;
      } in
      let O = c.orient-s.ensures d T.moves T.state c.args.amount.now c.args.pebble.now c.args.allowed.now _ R tabled.maps T.holds room in
      let C = chosen c.args.n.jobs c.args.pebble.now c.args.allowed.now (omega (arith, R.jobs, R.few_jobs)) c.choose.ensures in
      let P = c.push.ensures d T.moves T.state c.args.pebble.now c.args.allowed.now R tabled.maps C O.0 O.1 in
      turning_next d c.args.n (lows graph) (highs graph) (weights graph) c.args.amount.now c.args.pebble.now c.args.allowed.now R T O P c.in-Some.next c.in-Some.is (omega (arith, c.loop-test.true));
}

pub returns : goal.returns
returns c = λ d R₀ H sized fuel.
    let graph = c.new-graph.result in
    let tabled = c.new-graph.ensures in
    let R = ready_table d c.args.n c.args.low.now c.args.high.now c.args.weight.now c.args.amount.now c.args.pebble.now
    c.args.allowed.now graph R₀ tabled in
    let T = c.loop.invariant.turning d R sized (starts d c.args.n (lows graph) (highs graph) (weights graph)
    c.args.amount.now c.args.pebble.now c.args.allowed.now R c.args.first _ _ _ fuel c.saturating_add-end.ensures H) in
    turning_spent d c.args.n (lows graph) (highs graph) (weights graph) c.args.amount.now c.args.pebble.now c.args.allowed.now R T (omega arith)
