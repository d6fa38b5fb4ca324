-- The loads with the jobs passed.
use Rattle.loads.proofs.LoadLaws.{after_none, after_more}
use Rattle.loads.proofs.own.own_loads.Goals as goal

pub loop-j-init : goal.loop-j-init
loop-j-init c = after_none _ _ _ _

pub loop-j-preserved : goal.loop-j-preserved
loop-j-preserved c =
    after_more c.args.amount.now c.args.left.now c.args.place.now c.args.own.now _ c.loop-j.j
    c.loop-j.invariant c.add.ensures
