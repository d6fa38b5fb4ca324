-- The entries of the benches passed are written (SetRun).
use mathlib.Core.Path.{ap, ◌∙◌}
use mathlib.Core.Bool.{Bool, cond}
use native.Mathlib.Omega.{arith}
use lib.ListN.{get_or}
use Rattle.sets.proofs.SetLaws.{in-is_set}
use Rattle.sets.proofs.SetRun.{lowest-below, put_goes_on, put_ends_with}
use Rattle.rocks.proofs.components.put_where.Goals as goal

pub loop-left-smaller : goal.loop-left-smaller
loop-left-smaller g c =
    c.after-left.ensures.1 c.lowest-v.ensures (lowest-below c.loop-left.left c.lowest-v.result c.lowest-v.ensures
    c.loop-left-test.true (omega (arith, c.loop-left.invariant.small, c.ranges.set.fits)))

pub loop-left-preserved : goal.loop-left-preserved
loop-left-preserved g c =
    let below = lowest-below c.loop-left.left c.lowest-v.result c.lowest-v.ensures c.loop-left-test.true
    (omega (arith, c.loop-left.invariant.small, c.ranges.set.fits)) in
    put_goes_on c.args.set c.args.x c.args.to.now c.loop-left.left c.lowest-v.result c.loop-left.to
    c.loop-left.invariant c.lowest-v.ensures below c.after-left.result (c.after-left.ensures.0 c.lowest-v.ensures)
    (c.after-left.ensures.1 c.lowest-v.ensures below) c.put.ensures

pub returns : goal.returns
returns g c =
    λ v l.
    put_ends_with c.args.set c.args.x c.args.to.now g.T.Entry.blank c.loop-left.left c.loop-left.to c.loop-left.invariant (omega arith)
    v l ∙ ap (λ (t : Bool). cond t c.args.x (get_or c.args.to.now v g.T.Entry.blank)) (in-is_set c.args.set v)
