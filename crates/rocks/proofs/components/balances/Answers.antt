-- The entries of the benches passed are known (BalanceRun).
use native.Mathlib.Omega.{arith}
use Rattle.sums.proofs.TableLaws.{get_or-same}
use Rattle.rocks.proofs.components.balances.Goals as goal

pub loop-v-preserved : goal.loop-v-preserved
loop-v-preserved g c =
    λ d R room all. c.balance_from.ensures d R (get_or-same 512 0) (omega (arith, R.benches))
    (c.loop-v.invariant d R room all)
