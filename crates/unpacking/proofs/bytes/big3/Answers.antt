-- `big3`: the definition of `big`, written out.
use native.Mathlib.Omega.{arith}
use Rattle.bits.specs.Bits.{big}
use Rattle.unpacking.proofs.bytes.big3.Goals as goal

pub returns : goal.returns
unfolding big
returns c = omega arith
