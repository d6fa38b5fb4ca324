-- Both tests are of the sum.
use Rattle.arrays.proofs.ArrayLaws.{exceeds_above, exceeds_rest}
use Rattle.arrays.proofs.numbers.exceeds.Goals as goal

pub returns-then-bound-w : goal.returns-then-bound-w
returns-then-bound-w c = exceeds_above c.args.bound c.args.a c.args.w c.if-bound-w.true

pub returns : goal.returns
returns c = exceeds_rest c.args.bound c.args.a c.args.w c.if-bound-w.false
