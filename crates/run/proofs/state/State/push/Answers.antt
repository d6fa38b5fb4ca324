-- By whether the search finds a job (StateRun).
use mathlib.Core.Path.{refl, sym, ap, ◌∙◌}
use lib.ListN.{set}
use Rattle.algorithm.specs.Run.{board_of, explored}
use Rattle.rock_graph.specs.Graph.{lows, highs, weights}
use Rattle.push.proofs.PushRun.{move_some}
use Rattle.run.proofs.StateRun.{push_found_at, push_moves, push_stays}
use Rattle.run.proofs.state.State.push.Goals as goal

pub returns : goal.returns
returns c = λ d m s pebble allowed R M C H X.
    let graph = c.args.graph.now in
    let amount = c.args.amount.now in
    let found = push_found_at d c.args.n graph amount pebble allowed R M m s _ _ _ _ _ _ _ _ H X c.args.choice.now C _
    (c.fill_receivers.ensures (board_of d s) (explored d s)) (c.first_push.ensures (board_of d s) (explored d s) graph) in
    let at = move_some (board_of d s) (explored d s) (sym c.in_ok-m.was ∙ found) in
    push_moves d c.args.n (lows graph) (highs graph) (weights graph) amount pebble allowed R c.args.choice.now C m s
    _ _ _ _ _ _ _ _ H _ _ at.0 at.1 at.2 (c.put.ensures ∙ ap (set c.args.place.now c.in_ok-m.m.job) c.of.ensures) c.saturating_add.ensures (c.from-before.ensures ∙ c.at.ensures) c.shift.ensures.0
    c.shift.auto.reach c.shift.ensures.1 refl

pub returns-in_err-m : goal.returns-in_err-m
returns-in_err-m c = λ d m s pebble allowed R M C H X.
    let graph = c.args.graph.now in
    let amount = c.args.amount.now in
    let found = push_found_at d c.args.n graph amount pebble allowed R M m s _ _ _ _ _ _ _ _ H X c.args.choice.now C _
    (c.fill_receivers.ensures (board_of d s) (explored d s)) (c.first_push.ensures (board_of d s) (explored d s) graph) in
    push_stays d c.args.n (lows graph) (highs graph) (weights graph) amount pebble allowed R m s _ _ _ _
    (sym c.in_err-m.was ∙ found) c.from_residual.ensures
