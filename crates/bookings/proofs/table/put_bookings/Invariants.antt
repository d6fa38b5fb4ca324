-- The loop's invariant: the frames of the first b entries stand at the front, and all else is as it was.
use Rattle.bookings.proofs.BookingLaws.{PutUpTo}
use Rattle.bookings.proofs.table.put_bookings.Given as goal

abbrev pub invariant-loop-bench : goal.invariant-loop-bench
invariant-loop-bench l = PutUpTo l.booked l.initial.out l.bench l.at l.out
