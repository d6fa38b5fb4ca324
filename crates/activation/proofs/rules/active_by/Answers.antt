-- No rock passed activates the bench (SetRun, CandidateLaws).
use Prim.Native.Nat.{ℕ, ◌<◌, ◌^◌}
use mathlib.Core.Path.{sym, subst, ◌∙◌}
use native.Mathlib.Omega.{arith}
use lib.ListN.{get_or}
use Rattle.activation.specs.ActivationArrays.{activates_at}
use Rattle.sets.proofs.SetRun.{first_below, searched_goes_on}
use Rattle.forced.proofs.CandidateLaws.{some_yes, some_no}
use Rattle.rock_graph.specs.Graph.{incidents, lows, highs, weights}
use Rattle.activation.proofs.rules.active_by.Goals as goal

pub returns-then-activates : goal.returns-then-activates
returns-then-activates c =
    some_yes (incidents c.args.graph.now)
    (activates_at c.args.n (lows c.args.graph.now) (highs c.args.graph.now) (weights c.args.graph.now) c.args.own.now
    c.args.dir.now c.args.joined.now c.args.level.now)
    c.args.v c.loop-left.left c.loop-left.invariant c.lowest-r.result c.lowest-r.ensures
    (first_below (get_or (incidents c.args.graph.now) c.args.v 0) c.loop-left.left c.lowest-r.result c.lowest-r.ensures
    c.loop-left-test.true c.loop-left.invariant.small
    (subst (λ (k : ℕ). k < 2 ^ 64) c.incident-left.ensures c.incident-left.type_inv))
    (sym c.activates.ensures ∙ c.if-activates.true)

pub loop-left-smaller : goal.loop-left-smaller
loop-left-smaller c =
    c.after-left.ensures.1 c.lowest-r.ensures
    (first_below (get_or (incidents c.args.graph.now) c.args.v 0) c.loop-left.left c.lowest-r.result c.lowest-r.ensures
    c.loop-left-test.true c.loop-left.invariant.small
    (subst (λ (k : ℕ). k < 2 ^ 64) c.incident-left.ensures c.incident-left.type_inv))

pub loop-left-preserved : goal.loop-left-preserved
loop-left-preserved c =
    let below =
    first_below (get_or (incidents c.args.graph.now) c.args.v 0) c.loop-left.left c.lowest-r.result c.lowest-r.ensures
    c.loop-left-test.true c.loop-left.invariant.small
    (subst (λ (k : ℕ). k < 2 ^ 64) c.incident-left.ensures c.incident-left.type_inv) in
    searched_goes_on (get_or (incidents c.args.graph.now) c.args.v 0)
    (λ r. activates_at c.args.n (lows c.args.graph.now) (highs c.args.graph.now) (weights c.args.graph.now) c.args.own.now
    c.args.dir.now c.args.joined.now c.args.level.now r c.args.v)
    c.loop-left.left c.lowest-r.result c.loop-left.invariant c.lowest-r.ensures below c.after-left.result
    (c.after-left.ensures.0 c.lowest-r.ensures) (c.after-left.ensures.1 c.lowest-r.ensures below)
    (sym c.activates.ensures ∙ c.if-activates.false)

pub returns : goal.returns
returns c =
    some_no (incidents c.args.graph.now)
    (activates_at c.args.n (lows c.args.graph.now) (highs c.args.graph.now) (weights c.args.graph.now) c.args.own.now
    c.args.dir.now c.args.joined.now c.args.level.now)
    c.args.v c.loop-left.left c.loop-left.invariant (omega arith)
