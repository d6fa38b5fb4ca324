-- The array shows a state from which the rest of the loop gives what it gives from the start (SettleRun).
use native.Mathlib.Omega.{arith}
use Rattle.settle.proofs.SettleRun.{settle-starts, settle-next, settle-ends, settle-spent}
use Rattle.settle.proofs.settling.settle.Goals as goal

pub loop-init : goal.loop-init
loop-init c = λ b weight dirs R D.
    settle-starts b c.args.n c.args.low.now c.args.high.now weight R dirs _ D (omega arith)

pub returns-in_default : goal.returns-in_default
returns-in_default c = λ b weight dirs R D.
    settle-ends b c.args.n c.args.low.now c.args.high.now weight R (c.loop.invariant b weight dirs R D)
    c.everywhere-all.result c.everywhere-all.ensures c.first_neutral.ensures c.in_default.is

pub loop-preserved : goal.loop-preserved
loop-preserved c = λ b weight dirs R D.
    settle-next b c.args.n c.args.low.now c.args.high.now weight R (c.loop.invariant b weight dirs R D)
    c.everywhere-all.result c.everywhere-all.ensures c.first_neutral.ensures c.in-Some.is
    (omega (arith, c.loop-test.true)) (λ x E l. c.settle_system.ensures b weight x R E l)

pub returns : goal.returns
returns c = λ b weight dirs R D.
    settle-spent b c.args.n c.args.low.now c.args.high.now weight R (c.loop.invariant b weight dirs R D) (omega arith)
