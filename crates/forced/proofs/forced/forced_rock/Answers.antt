-- No neutral rock passed is too heavy (SetRun, NeutralLaws).
use Prim.Native.Nat.{ℕ}
use mathlib.Core.Path.{sym, subst, ◌∙◌}
use native.Mathlib.Omega.{arith}
use Rattle.sets.proofs.SetRun.{first_below, searched_goes_on}
use Rattle.forced.proofs.NeutralLaws.{BothOf, exceeds_at, free_found, free_none}
use Rattle.rock_graph.specs.Graph.{incidents, lows, highs, weights}
use Rattle.forced.proofs.forced.forced_rock.Goals as goal

pub returns-then-exceeds : goal.returns-then-exceeds
returns-then-exceeds c = λ n dir H N hv.
    free_found n (lows c.args.graph.now) (highs c.args.graph.now) dir (incidents c.args.graph.now) c.args.neutral H N
    c.args.v hv c.common-left.result
    (subst (λ (x : ℕ). BothOf c.common-left.result x c.args.neutral) c.incident.ensures c.common-left.ensures)
    c.args.bound (weights c.args.graph.now) c.args.load.now c.loop-left.left c.loop-left.invariant c.lowest-r.result
    c.lowest-r.ensures
    (first_below c.common-left.result c.loop-left.left c.lowest-r.result c.lowest-r.ensures c.loop-left-test.true
    c.loop-left.invariant.small c.common-left.type_inv)
    (rw (← c.at.ensures, ← c.weight.ensures) (sym c.exceeds.ensures ∙ c.if-exceeds.true))

pub loop-left-smaller : goal.loop-left-smaller
loop-left-smaller c =
    c.after-left.ensures.1 c.lowest-r.ensures
    (first_below c.common-left.result c.loop-left.left c.lowest-r.result c.lowest-r.ensures c.loop-left-test.true
    c.loop-left.invariant.small c.common-left.type_inv)

pub loop-left-preserved : goal.loop-left-preserved
loop-left-preserved c =
    let below =
    first_below c.common-left.result c.loop-left.left c.lowest-r.result c.lowest-r.ensures c.loop-left-test.true
    c.loop-left.invariant.small c.common-left.type_inv in
    searched_goes_on c.common-left.result
    (exceeds_at c.args.bound (weights c.args.graph.now) c.args.load.now c.args.v) c.loop-left.left c.lowest-r.result
    c.loop-left.invariant c.lowest-r.ensures below c.after-left.result (c.after-left.ensures.0 c.lowest-r.ensures)
    (c.after-left.ensures.1 c.lowest-r.ensures below)
    (rw (← c.at.ensures, ← c.weight.ensures) (sym c.exceeds.ensures ∙ c.if-exceeds.false))

pub returns : goal.returns
returns c = λ n dir H N hv.
    free_none n (lows c.args.graph.now) (highs c.args.graph.now) dir (incidents c.args.graph.now) c.args.neutral H N
    c.args.v hv c.common-left.result
    (subst (λ (x : ℕ). BothOf c.common-left.result x c.args.neutral) c.incident.ensures c.common-left.ensures)
    c.args.bound (weights c.args.graph.now) c.args.load.now c.loop-left.left c.loop-left.invariant (omega arith)
