-- The run of the start (SearchRun).
use native.Mathlib.Omega.{arith}
use Rattle.day.specs.Day.{with_target}
use Rattle.searching.proofs.SearchRun.{lent_at, search_starts}
use Rattle.searching.proofs.searching.begin.Goals as goal

pub returns : goal.returns
returns c d L e =
    let lent = lent_at d c.args.h c.args.jobs c.args.minutes.now c.args.allowed.now c.args.booked L c.args.start
    (omega (arith, e, L.start_fits)) c.at_target.ensures in
    search_starts d L.start_planned c.args.start e (c.decide-first.ensures (with_target d c.args.start) lent)
    c.moves_of.ensures c.unwrap_or-moves.ensures
