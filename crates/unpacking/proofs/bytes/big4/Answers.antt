-- `big4`: the definition of `big`, written out from `big3`.
use native.Mathlib.Omega.{arith}
use Rattle.bits.specs.Bits.{big}
use Rattle.unpacking.proofs.bytes.big4.Goals as goal

pub returns : goal.returns
unfolding big
returns c = omega arith
