-- One more bit is set.
use Rattle.sets.proofs.BitLaws.{with_bench}
use native.Mathlib.Omega.{arith}
use Rattle.sets.proofs.sets.with.Goals as goal

pub returns : goal.returns
returns c = λ u h. with_bench c.args.mask c.args.v u (omega arith) h
