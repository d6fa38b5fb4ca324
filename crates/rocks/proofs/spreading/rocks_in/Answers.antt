-- No more rocks are inside than were passed.
use native.Mathlib.Omega.{arith}
use Rattle.sums.proofs.CountLaws.{count-le}
use Rattle.bits.specs.Bits.{is_set}
use Rattle.rocks.specs.SpreadArrays.{inside_at}
use Rattle.rocks.proofs.spreading.rocks_in.Goals as goal

pub overflow_add-k : goal.overflow_add-k
overflow_add-k c =
    omega (
      arith,
      c.loop-r.invariant,
      count-le c.loop-r.r (inside_at c.args.low.now c.args.dir.now (is_set 64 c.args.chosen)),
      c.loop-r-test.true,
    )
