-- `put_entry`: nothing is put for 0 minutes, and for any other number a frame into a part that is as long.
use native.Mathlib.Omega.{arith}
use Rattle.bookings.proofs.BookingLaws.{length-entry, zero-put, entry_put}
use Rattle.bookings.proofs.table.put_entry.Goals as goal

pub returns-then-booking-eq0 : goal.returns-then-booking-eq0
returns-then-booking-eq0 c =
    let a = c.args in
    zero-put a.booking.bench a.booking.minutes a.at a.out.now c.if-booking-eq0.true

pub slice_bounds-put_booking-end : goal.slice_bounds-put_booking-end
slice_bounds-put_booking-end c =
    let a = c.args in
    omega (arith, length-entry a.booking.bench a.booking.minutes c.if-booking-eq0.false)

pub returns : goal.returns
returns c =
    let a = c.args in
    entry_put a.booking.bench a.booking.minutes a.at a.out.now c.put_booking.new.out
    c.if-booking-eq0.false c.requires c.put_booking.ensures
