-- The loop's invariant: the frames of the first b entries stand at the front, and all else is as it was.
use native.Mathlib.Omega.{arith}
use Rattle.bookings.proofs.BookingLaws.{entries_none, entry_room, entries_more, entries_put}
use Rattle.bookings.proofs.BookingLaws.{entries_short}
use Rattle.bookings.proofs.table.put_bookings.Goals as goal

pub returns-then-out-count_bookings : goal.returns-then-out-count_bookings
returns-then-out-count_bookings c =
    let a = c.args in
    entries_short a.booked.now a.out.now (omega (arith, c.count_bookings.ensures))

pub loop-bench-init : goal.loop-bench-init
loop-bench-init c =
    let a = c.args in
    entries_none a.booked.now a.out.now

pub put_entry-at-requires : goal.put_entry-at-requires
put_entry-at-requires c =
    let l = c.loop-bench in
    let a = c.args in
    entry_room a.booked.now a.out.now l.bench l.at l.out c.loop-bench-test.true
    (omega (arith, c.count_bookings.ensures)) l.invariant

pub loop-bench-preserved : goal.loop-bench-preserved
loop-bench-preserved c =
    let put = c.put_entry-at in
    let l = c.loop-bench in
    let a = c.args in
    entries_more a.booked.now a.out.now l.bench l.at put.result l.out _ c.loop-bench-test.true
    l.invariant put.auto.out put.ensures.0 put.ensures.1

pub returns : goal.returns
returns c =
    let l = c.loop-bench in
    let a = c.args in
    entries_put a.booked.now a.out.now l.bench l.at l.out c.loop-bench-test.false
    (omega (arith, c.count_bookings.ensures)) l.invariant
