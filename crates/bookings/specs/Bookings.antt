-- The bookings of a table as they are put into an output, whatever their numbers.
--     cut_bookings bs     the bookings bs, each number cut to its field
--     entry_frames b n    what is put for entry b of a table, of n minutes: a frame, or nothing for 0 minutes
use Rattle.std.specs.Prelude.{ℕ, List, [], ◌∷◌, map}
use Rattle.fields.specs.declared.sheet.Booking.{Booking}
use Rattle.fields.specs.Format.{booked_from, booking_frames}
use Rattle.packing.specs.Packing.{cut_booking}

abbrev pub cut_bookings : List Booking → List Booking
cut_bookings bs = map cut_booking bs

abbrev pub entry_frames : ℕ → ℕ → List ℕ
entry_frames b n = booking_frames (cut_bookings (booked_from b (n ∷ [])))
