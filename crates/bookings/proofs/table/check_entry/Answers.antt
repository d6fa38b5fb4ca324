-- `check_entry`: a booking of 0 is none; for any other one no bench is in the set of those that had one.
use Rattle.bookings.proofs.BookingLaws.{zero-passes, entry_checked}
use Rattle.bookings.proofs.table.check_entry.Goals as goal

pub returns-then-minutes-eq0 : goal.returns-then-minutes-eq0
returns-then-minutes-eq0 c =
    let a = c.args in
    zero-passes a.benches a.bench a.minutes c.if-minutes-eq0.true

pub returns : goal.returns
returns c =
    let a = c.args in
    entry_checked a.benches a.bench a.minutes c.if-minutes-eq0.false c.check_booking.ensures
