-- The digits below that of v.
use Prim.Native.Nat.{ℕ, ◌%◌}
use mathlib.Core.Path.{ap, ◌∙◌}
use native.Mathlib.Omega.{arith}
use Rattle.bits.specs.Bits.{is_set}
use Rattle.sets.proofs.SetLaws.{above_set, above_none, power_fits}
use Rattle.sets.proofs.sets.above.Goals as goal

pub returns-then-v-gt63 : goal.returns-then-v-gt63
returns-then-v-gt63 c = λ u h. above_none c.args.set c.args.v u c.if-v-gt63.true h

pub returns : goal.returns
returns c =
    λ u h.
    ap (λ (k : ℕ). is_set 64 (c.args.set % k) u) (power_fits c.args.v) ∙ above_set c.args.set c.args.v u
    (omega arith) h
