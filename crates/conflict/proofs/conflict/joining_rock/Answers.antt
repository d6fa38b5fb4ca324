-- No rock passed leads to the conflict set.
use Prim.Native.Nat.{ℕ, ◌^◌, ◌<◌}
use mathlib.Core.Path.{sym, ap, subst, ◌∙◌}
use mathlib.Core.Bool.{not}
use native.Mathlib.Omega.{arith}
use lib.ListN.{get_or}
use Rattle.bools.proofs.BoolLaws.{and-false_left, not_intro_true, not_intro_false}
use Rattle.rocks.specs.RockArrays.{father_at}
use Rattle.conflict.specs.ConflictArrays.{joins_at}
use Rattle.arrays.proofs.ArrayLaws.{and_rest}
use Rattle.sets.proofs.SetRun.{first_below, searched_goes_on}
use Rattle.forced.proofs.CandidateLaws.{listed_found, listed-none}
use Rattle.conflict.proofs.ConflictLoops.{rock_out}
use Rattle.rock_graph.specs.Graph.{incidents, lows, highs}
use Rattle.conflict.proofs.conflict.joining_rock.Goals as goal

pub returns-then-within : goal.returns-then-within
returns-then-within c =
    rock_out (incidents c.args.graph.now)
    (joins_at c.args.benches (lows c.args.graph.now) (highs c.args.graph.now) c.args.dir.now c.args.joined.now) c.args.v
    (λ r. and-false_left
    (father_at c.args.benches (lows c.args.graph.now) (highs c.args.graph.now) c.args.dir.now c.args.joined.now r c.args.v)
    (not_intro_false (sym c.within.ensures ∙ c.if-within.true)))

pub returns-then-father : goal.returns-then-father
returns-then-father c =
    listed_found (incidents c.args.graph.now)
    (joins_at c.args.benches (lows c.args.graph.now) (highs c.args.graph.now) c.args.dir.now c.args.joined.now) c.args.v
    c.loop-left.left c.loop-left.invariant c.lowest-r.result c.lowest-r.ensures
    (first_below (get_or (incidents c.args.graph.now) c.args.v 0) c.loop-left.left c.lowest-r.result c.lowest-r.ensures
    c.loop-left-test.true c.loop-left.invariant.small
    (subst (λ (k : ℕ). k < 2 ^ 64) c.incident-left.ensures c.incident-left.type_inv))
    (sym (and_rest (ap not c.within.ensures) (not_intro_true c.if-within.false) c.father.ensures) ∙ c.if-father.true)

pub loop-left-smaller : goal.loop-left-smaller
loop-left-smaller c =
    c.after-left.ensures.1 c.lowest-r.ensures
    (first_below (get_or (incidents c.args.graph.now) c.args.v 0) c.loop-left.left c.lowest-r.result c.lowest-r.ensures
    c.loop-left-test.true c.loop-left.invariant.small
    (subst (λ (k : ℕ). k < 2 ^ 64) c.incident-left.ensures c.incident-left.type_inv))

pub loop-left-preserved : goal.loop-left-preserved
loop-left-preserved c =
    let below =
    first_below (get_or (incidents c.args.graph.now) c.args.v 0) c.loop-left.left c.lowest-r.result c.lowest-r.ensures
    c.loop-left-test.true c.loop-left.invariant.small
    (subst (λ (k : ℕ). k < 2 ^ 64) c.incident-left.ensures c.incident-left.type_inv) in
    searched_goes_on (get_or (incidents c.args.graph.now) c.args.v 0)
    (λ k. joins_at c.args.benches (lows c.args.graph.now) (highs c.args.graph.now) c.args.dir.now c.args.joined.now k c.args.v)
    c.loop-left.left c.lowest-r.result c.loop-left.invariant c.lowest-r.ensures below c.after-left.result
    (c.after-left.ensures.0 c.lowest-r.ensures) (c.after-left.ensures.1 c.lowest-r.ensures below)
    (sym (and_rest (ap not c.within.ensures) (not_intro_true c.if-within.false) c.father.ensures) ∙ c.if-father.false)

pub returns : goal.returns
returns c =
    listed-none (incidents c.args.graph.now)
    (joins_at c.args.benches (lows c.args.graph.now) (highs c.args.graph.now) c.args.dir.now c.args.joined.now) c.args.v
    c.loop-left.left c.loop-left.invariant (omega arith)
