-- The run of the middle (SearchRun).
use Rattle.day.specs.Day.{with_target}
use Rattle.searching.specs.Searching.{half}
use Rattle.searching.proofs.SearchRun.{lent_at, half-small, after_plan_lem, after_refusal_lem}
use Rattle.searching.proofs.searching.next.Goals as goal

pub returns-in-Some-clause-goes_on : goal.returns-in-Some-clause-goes_on
returns-in-Some-clause-goes_on c d L S =
    let small = half-small d L.start_fits c.args.k S c.requires in
    let lent = lent_at d c.args.h c.args.jobs c.args.minutes.now c.args.allowed.now c.args.booked L (half c.args.k)
    small c.at_target.ensures in
    let D = c.decide-tried.ensures (with_target d (half c.args.k)) lent in
    after_plan_lem d L.start_fits c.args.k S c.requires D c.moves_of.ensures c.in-Some.moves c.in-Some.is
    c.lowered.ensures

pub returns-in_default-clause-goes_on : goal.returns-in_default-clause-goes_on
returns-in_default-clause-goes_on c d L S =
    let small = half-small d L.start_fits c.args.k S c.requires in
    let lent = lent_at d c.args.h c.args.jobs c.args.minutes.now c.args.allowed.now c.args.booked L (half c.args.k)
    small c.at_target.ensures in
    let D = c.decide-tried.ensures (with_target d (half c.args.k)) lent in
    after_refusal_lem d L.start_fits c.args.k S c.requires D c.moves_of.ensures c.in_default.is c.raised.ensures
