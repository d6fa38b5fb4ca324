-- The entries passed are filled in.
use mathlib.Core.Path.{refl}
use native.Mathlib.Omega.{arith}
use Rattle.arrays.proofs.FilledLaws.{filled_none, filled_more, all-filled}
use Rattle.arrays.proofs.arrays.fill.Goals as goal

pub loop-i-init : goal.loop-i-init
loop-i-init c = filled_none (λ k. c.args.v) c.args.t.now

pub loop-i-preserved : goal.loop-i-preserved
loop-i-preserved c =
    filled_more (λ k. c.args.v) c.loop-i.i c.args.t.now c.loop-i.invariant refl c.put.ensures

pub returns : goal.returns
returns c =
    all-filled c.args.v c.loop-i.i c.args.t.now c.loop-i.t (omega (arith, c.loop-i.auto.t)) c.loop-i.auto.t
    c.loop-i.invariant
