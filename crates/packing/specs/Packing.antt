-- Frames put into an output, whatever the numbers and the room.
--     cut_head h, cut_booking b, cut_job j  each number cut to its field: of one that is too wide the low bits are left
--     frame_put frame at out      the output with a frame at byte at; without room for all of it, the output as it is
use Rattle.std.specs.Prelude.{ℕ, ◌+◌, ◌%◌, ◌^◌, cond, List, ◌++◌, length, take, drop, leb}
use Rattle.fields.specs.declared.sheet.Booking.{Booking}
use Rattle.fields.specs.declared.sheet.Head.{Head}
use Rattle.fields.specs.declared.sheet.Job.{Job}

-- "benches (7 bits, 1 to 64), p (7), q (7), target T (30)"
abbrev pub cut_head : Head → Head
cut_head h =
    record { benches = h.benches % 2 ^ 7; p = h.p % 2 ^ 7; q = h.q % 2 ^ 7; target = h.target % 2 ^ 30 }

-- "bench (6 bits), booked minutes (20)"
abbrev pub cut_booking : Booking → Booking
cut_booking b = record { bench = b.bench % 2 ^ 6; minutes = b.minutes % 2 ^ 20 }

-- "minutes (20, 1 to 1,048,575), benches allowed (64, ..)": a set of benches has 64 bits in the program too.
abbrev pub cut_job : Job → Job
cut_job j = record { minutes = j.minutes % 2 ^ 20; allowed = j.allowed }

unfoldable pub frame_put : List ℕ → ℕ → List ℕ → List ℕ
frame_put frame at out =
    cond (leb (at + length frame) (length out)) (take at out ++ frame ++ drop (at + length frame) out) out
