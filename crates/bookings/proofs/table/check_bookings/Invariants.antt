-- The loop's invariant: the verdict on all bookings is that on the bookings from bench b on.
use mathlib.Core.Path.{◌≡◌}
use Rattle.fields.specs.Format.{bookings}
use Rattle.fields.specs.Tests.{first_fault, booked_faults}
use Rattle.bookings.proofs.BookingLaws.{verdict_from}
use Rattle.bookings.proofs.table.check_bookings.Given as goal

abbrev pub invariant-loop-bench : goal.invariant-loop-bench
invariant-loop-bench l =
    first_fault (booked_faults l.benches (bookings l.booked)) ≡ verdict_from l.benches l.booked l.bench
