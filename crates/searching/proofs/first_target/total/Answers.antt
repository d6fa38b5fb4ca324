-- The sum of the entries passed.
use mathlib.Core.Path.{◌≡◌}
use native.Mathlib.Omega.{arith}
use Rattle.searching.proofs.SearchRun.{total-more}
use Rattle.searching.proofs.first_target.total.Goals as goal

pub loop-i-preserved : goal.loop-i-preserved
loop-i-preserved c =
    total-more c.loop-i.i c.args.t.now c.loop-i.invariant c.at.ensures c.saturating_add-sum.ensures

pub returns : goal.returns
returns c =
    let e : c.loop-i.i ≡ c.args.n = omega arith in
    rw (← e) c.loop-i.invariant
