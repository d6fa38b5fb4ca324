-- The arrays show a state from which the rest of the peeling gives what it gives from the start (StartRun).
use mathlib.Core.List.{map}
use native.Mathlib.Omega.{arith}
use Rattle.start.proofs.StartRun.{peeling_ends, peeling_goes_on, peeling_spent, some_rock}
use Rattle.start.proofs.peeling.peel.Goals as goal

pub returns-in_default : goal.returns-in_default
returns-in_default g c = λ d s R J C S.
    peeling_ends d c.args.n c.args.low.now c.args.high.now R c.args.job.now J
    (map g.S.Standing.balance c.args.balance.now) C
    (c.loop.invariant d s R J C S) c.first_hanging.ensures c.in_default.is

pub returns-in_default-hanging_rock : goal.returns-in_default-hanging_rock
returns-in_default-hanging_rock g c = λ d s R J C S.
    absurd (some_rock d c.args.n c.args.low.now c.args.high.now R c.args.job.now J
    (map g.S.Standing.balance c.args.balance.now) C
    (c.loop.invariant d s R J C S) c.first_hanging.ensures c.in-Some.is c.hanging_rock.ensures
    c.in_default-hanging_rock.is)

pub loop-preserved : goal.loop-preserved
loop-preserved g c = λ d s R J C S.
    peeling_goes_on d c.args.n c.args.low.now c.args.high.now R c.args.job.now J
    (map g.S.Standing.balance c.args.balance.now) C
    (c.loop.invariant d s R J C S) c.first_hanging.ensures c.in-Some.is (omega (arith, c.loop-test.true))
    c.hanging_rock.ensures c.in-Some-hanging_rock.is c.at-j.ensures c.put.ensures c.put-in-loop.ensures

pub returns : goal.returns
returns g c = λ d s R J C S. peeling_spent (c.loop.invariant d s R J C S) (omega arith)
