-- Array and set show a state from which the rest of the loop gives what it gives from the start (SettleRun).
use native.Mathlib.Omega.{arith}
use Rattle.settle.proofs.SettleRun.{follow-starts, follow-next, follow-ends, follow-spent, some_rock}
use Rattle.settle.proofs.settling.follow.Goals as goal

pub loop-init : goal.loop-init
loop-init c = λ b weight dirs ms R D M.
    follow-starts b c.args.n c.args.low.now c.args.high.now weight R dirs ms _ D M (omega arith)

pub returns-in_default : goal.returns-in_default
returns-in_default c = λ b weight dirs ms R D M.
    follow-ends b c.args.n c.args.low.now c.args.high.now weight R (c.loop.invariant b weight dirs ms R D M)
    c.first_neutral.ensures c.in_default.is

pub returns-in_default-neutral_rock : goal.returns-in_default-neutral_rock
returns-in_default-neutral_rock c = λ b weight dirs ms R D M.
    absurd (some_rock b c.args.n c.args.low.now c.args.high.now weight R (c.loop.invariant b weight dirs ms R D M)
    c.first_neutral.ensures c.in-Some.is c.neutral_rock.ensures c.in_default-neutral_rock.is)

pub loop-preserved : goal.loop-preserved
loop-preserved c = λ b weight dirs ms R D M.
    follow-next b c.args.n c.args.low.now c.args.high.now weight R (c.loop.invariant b weight dirs ms R D M)
    c.first_neutral.ensures c.in-Some.is (omega (arith, c.loop-test.true)) c.neutral_rock.ensures
    c.in-Some-neutral_rock.is c.turn-u.ensures.0 c.turn-u.ensures.1 c.with-marked.ensures

pub returns : goal.returns
returns c = λ b weight dirs ms R D M.
    follow-spent b c.args.n c.args.low.now c.args.high.now weight R (c.loop.invariant b weight dirs ms R D M)
    (omega arith)
