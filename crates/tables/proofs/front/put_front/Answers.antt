-- The numbers before i stand at the front of the table (FrontSteps).
use mathlib.Core.Path.{refl}
use Rattle.tables.proofs.FrontSteps.{front_starts, front_more, front_over}
use Rattle.tables.proofs.front.put_front.Goals as goal

pub loop-i-init : goal.loop-i-init
loop-i-init c = front_starts c.args.from.now c.args.t.now

pub returns : goal.returns
returns c =
    front_over c.args.from.now c.args.t.now c.loop-i.t c.loop-i.i c.loop-i.invariant c.loop-i-test.false

pub loop-i-preserved : goal.loop-i-preserved
loop-i-preserved c =
    front_more c.args.from.now c.args.t.now c.loop-i.t c.loop-i.i c.loop-i.invariant c.loop-i-test.true refl
    c.put.ensures
