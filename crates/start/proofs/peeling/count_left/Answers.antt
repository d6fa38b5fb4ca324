-- No more rocks are left at v than were passed.
use native.Mathlib.Omega.{arith}
use Rattle.sums.proofs.CountLaws.{count-le}
use Rattle.start.specs.StartArrays.{left_rock}
use Rattle.start.proofs.peeling.count_left.Goals as goal

pub overflow_add-k : goal.overflow_add-k
overflow_add-k c =
    omega (
      arith,
      c.loop-r.invariant,
      count-le c.loop-r.r (left_rock c.args.job.now c.args.low.now c.args.high.now c.args.left.now c.args.v),
      c.loop-r-test.true,
    )
