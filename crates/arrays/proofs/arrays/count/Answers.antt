-- No more entries hold than were passed.
use mathlib.Core.Bool.{false}
use native.Mathlib.Omega.{arith}
use lib.ListN.{get_or}
use Rattle.sums.proofs.CountLaws.{count-le}
use Rattle.arrays.proofs.arrays.count.Goals as goal

pub overflow_add-k : goal.overflow_add-k
overflow_add-k c =
    omega (arith, c.loop-i.invariant, count-le c.loop-i.i (λ j. get_or c.args.t.now j false), c.loop-i-test.true, c.ranges.n)
