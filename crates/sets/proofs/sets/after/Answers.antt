-- The digits below that of v.
use Prim.Native.Nat.{ℕ, ◌%◌, ◌<◌}
use mathlib.Core.Path.{sym, ap, subst, ◌∙◌}
use native.Mathlib.Omega.{arith}
use Rattle.bits.specs.Bits.{is_set}
use Rattle.sets.proofs.SetLaws.{after_set, after_less, power_fits}
use Rattle.sets.proofs.sets.after.Goals as goal

pub returns : goal.returns
returns c = (
  λ e u h. ap (λ (k : ℕ). is_set 64 (c.args.set % k) u) (power_fits c.args.v) ∙ after_set c.args.set
      c.args.v u e (omega arith) h,
  λ e h. subst (λ (k : ℕ). c.args.set % k < c.args.set)
      (sym (power_fits c.args.v)) (after_less c.args.set c.args.v e h),
)
