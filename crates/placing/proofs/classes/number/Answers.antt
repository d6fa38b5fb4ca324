-- The entries passed are numbered.
use Prim.Native.Nat.{ℕ}
use mathlib.Core.Path.{refl}
use native.Mathlib.Omega.{arith}
use lib.ListN.{length}
use Rattle.arrays.proofs.FilledLaws.{filled_none, filled_more, filled-end}
use Rattle.placing.proofs.classes.number.Goals as goal

pub loop-v-init : goal.loop-v-init
loop-v-init c = filled_none (λ u. u) c.args.labels.now

pub loop-v-preserved : goal.loop-v-preserved
loop-v-preserved c = filled_more (λ u. u) c.loop-v.v c.args.labels.now c.loop-v.invariant refl refl

pub returns : goal.returns
returns c =
    filled-end (λ (u : ℕ). u) (length c.args.labels.now) c.loop-v.v c.args.labels.now
    (omega (arith, c.loop-v.auto.labels)) (omega (arith, c.loop-v.auto.labels)) c.loop-v.invariant
