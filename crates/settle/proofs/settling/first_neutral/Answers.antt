-- v is the lowest end of the rocks passed.
use Rattle.bits.specs.Bits.{is_set}
use Rattle.settle.specs.SettleArrays.{follows_at}
use Rattle.rocks.proofs.RockLaws.{lowest_none, lowest_more}
use Rattle.settle.proofs.settling.first_neutral.Goals as goal

pub loop-r-init : goal.loop-r-init
loop-r-init c =
    lowest_none c.args.n.benches c.args.low.now c.args.high.now (follows_at c.args.dir.now (is_set 64 c.args.marked))

pub loop-r-preserved : goal.loop-r-preserved
loop-r-preserved c =
    lowest_more c.args.n.benches c.loop-r.r c.args.low.now c.args.high.now
    (follows_at c.args.dir.now (is_set 64 c.args.marked)) c.loop-r.invariant c.at-lo.ensures c.follows.ensures
    c.lower-v.ensures c.at-hi.ensures c.follows-in-loop-r.ensures c.lower-v-in-loop-r.ensures
