-- By the least weight (WeightLaws).
use Rattle.weighing.proofs.WeightLaws.{blocks-none, blocks-weighed}
use Rattle.weighing.proofs.weighing.blocks.Goals as goal

pub returns-in_default : goal.returns-in_default
returns-in_default c d W O =
    blocks-none d c.args.bay c.args.jobs c.args.minutes.now c.args.allowed.now c.args.booked.now
    W O (c.least_heavy.ensures d W.holds) c.in_default.is

pub returns : goal.returns
returns c d W O =
    blocks-weighed d c.args.bay c.args.jobs c.args.minutes.now c.args.allowed.now
    c.args.booked.now W O _ (c.least_heavy.ensures d W.holds) c.in-Some.is
    (c.light_weight-light.ensures d W.holds)
    (c.booked_weight.ensures d W.bookings) c.saturating_add-fixed.ensures
    c.choices.ensures c.times.ensures c.saturating_add.ensures
