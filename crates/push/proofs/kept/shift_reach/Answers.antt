-- The two stores.
use mathlib.Core.Path.{ap₂}
use lib.Bits.{bit_or}
use Rattle.push.proofs.KeptRun.{reach_shifted}
use Rattle.push.proofs.kept.shift_reach.Goals as goal

pub returns : goal.returns
returns c =
    reach_shifted c.args.jobs c.args.choice.now c.args.place.now c.args.reach.now c.args.u c.args.v c.args.j c.at.result _
    c.reach_from-there.result c.put.new.t c.at.ensures c.reach_from-there.ensures (ap₂ bit_or c.at-2.ensures c.at-3.ensures)
    c.put.ensures c.put-2.ensures
