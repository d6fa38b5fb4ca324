-- The format of a sheet (document 01, "The sheet"): frames, and the fields of each kind. Reader and writer use the same
-- layouts.
--     ours                        the version that is read; frames of any other are skipped
--     head_kind, job_kind, end_kind, booking_kind  the kinds of version 1
--     header_layout           widths of the header's packed fields, in bits, in order
--     head_layout, job_layout, end_layout, booking_layout  the same for the body of each kind; layout_of: one of these
--     header_size                 bytes of a frame header
--     version_of, kind_of, length_of    the header's fields, of the bytes from the frame's first on
--     frame_size                  bytes of the whole frame
--     body_of                      the frame's body
--     body_length kind            the body length that a kind must have
--     head_of, job_of, booking_of   what a body holds
--     spare_of kind body           the spare bits, as a number
--     allows job b                whether the job may run on bench b
--     frame_bytes kind body       a frame of version 1
--     head_frame, booking_frame, job_frame, end_frame  the frame of each kind
--     booked_from b bs, bookings bs   the bookings above 0 of a table, by rising bench: those from bench b on; all
--     booking_frames, job_frames, sheet_bytes c     what the writer gives
use Rattle.std.specs.Prelude.{ℕ, suc, ◌+◌, ◌/◌, Bool, cond, List, [], ◌∷◌, ◌++◌, length, take, drop, eqb}
use Rattle.bits.specs.Bits.{is_set}
use Rattle.bits.specs.Layout.{total, field, packed}
use Rattle.fields.specs.declared.sheet.Head.{Head}
use Rattle.fields.specs.declared.sheet.Booking.{Booking}
use Rattle.fields.specs.declared.sheet.Job.{Job}
use Rattle.fields.specs.Contents.{Contents}

-- "Version 1 has these kinds."
abbrev pub ours : ℕ
ours = 1

abbrev pub head_kind : ℕ
head_kind = 1

abbrev pub job_kind : ℕ
job_kind = 2

abbrev pub end_kind : ℕ
end_kind = 3

-- Request S-1: "Kind 4 in version 1 carries them"
abbrev pub booking_kind : ℕ
booking_kind = 4

-- "A frame header has 24 bits: version (4), kind (4), body length in bytes (16)."
abbrev pub header_layout : List ℕ
header_layout = 4 ∷ 4 ∷ 16 ∷ []

-- "head, 7 bytes: benches (7 bits, 1 to 64), p (7), q (7), target T (30), 5 spare bits."
abbrev pub head_layout : List ℕ
head_layout = 7 ∷ 7 ∷ 7 ∷ 30 ∷ 5 ∷ []

-- "job, 11 bytes: minutes (20, 1 to 1,048,575), benches allowed (64, the first bit is bench 0), 4 spare bits." Minutes
-- may be 0 (request S-3).
abbrev pub job_layout : List ℕ
job_layout = 20 ∷ 64 ∷ 4 ∷ []

-- "end, no body."
abbrev pub end_layout : List ℕ
end_layout = []

-- Request S-1: "4 bytes: bench (6 bits), booked minutes (20), 6 spare bits"
abbrev pub booking_layout : List ℕ
booking_layout = 6 ∷ 20 ∷ 6 ∷ []

abbrev pub layout_of : ℕ → List ℕ
layout_of kind =
    cond (eqb kind head_kind) head_layout
    (cond (eqb kind job_kind) job_layout
    (cond (eqb kind booking_kind) booking_layout end_layout))

abbrev pub header_size : ℕ
header_size = total header_layout / 8

abbrev pub version_of : List ℕ → ℕ
version_of frame = field header_layout 0 frame

abbrev pub kind_of : List ℕ → ℕ
kind_of frame = field header_layout 1 frame

abbrev pub length_of : List ℕ → ℕ
length_of frame = field header_layout 2 frame

abbrev pub frame_size : List ℕ → ℕ
frame_size frame = header_size + length_of frame

-- "The body of a frame is handed on as that part of the sheet"
abbrev pub body_of : List ℕ → List ℕ
body_of frame = take (length_of frame) (drop header_size frame)

abbrev pub body_length : ℕ → ℕ
body_length kind = total (layout_of kind) / 8

abbrev pub head_of : List ℕ → Head
head_of body =
    record {
      benches = field head_layout 0 body;
      p = field head_layout 1 body;
      q = field head_layout 2 body;
      target = field head_layout 3 body;
    }

abbrev pub job_of : List ℕ → Job
job_of body = record { minutes = field job_layout 0 body; allowed = field job_layout 1 body }

abbrev pub booking_of : List ℕ → Booking
booking_of body = record { bench = field booking_layout 0 body; minutes = field booking_layout 1 body }

abbrev pub spare_of : ℕ → List ℕ → ℕ
spare_of kind body =
    cond (eqb kind head_kind) (field head_layout 4 body)
    (cond (eqb kind job_kind) (field job_layout 2 body)
    (cond (eqb kind booking_kind) (field booking_layout 2 body) 0))

-- "the first bit is bench 0"
abbrev pub allows : Job → ℕ → Bool
allows job b = is_set 64 job.allowed b

abbrev pub frame_bytes : ℕ → List ℕ → List ℕ
frame_bytes kind body = packed header_layout (ours ∷ kind ∷ length body ∷ []) ++ body

abbrev pub head_frame : Head → List ℕ
head_frame h = frame_bytes head_kind (packed head_layout (h.benches ∷ h.p ∷ h.q ∷ h.target ∷ 0 ∷ []))

abbrev pub booking_frame : Booking → List ℕ
booking_frame b = frame_bytes booking_kind (packed booking_layout (b.bench ∷ b.minutes ∷ 0 ∷ []))

abbrev pub job_frame : Job → List ℕ
job_frame j = frame_bytes job_kind (packed job_layout (j.minutes ∷ j.allowed ∷ 0 ∷ []))

abbrev pub end_frame : List ℕ
end_frame = frame_bytes end_kind (packed end_layout [])

-- Request S-1: "the writer gives the non-zero ones by rising bench"
unfoldable pub booked_from : ℕ → List ℕ → List Booking
booked_from b [] = []
booked_from b (n ∷ ns) =
    cond (eqb n 0) (booked_from (suc b) ns) (record { bench = b; minutes = n } ∷ booked_from (suc b) ns)

abbrev pub bookings : List ℕ → List Booking
bookings bs = booked_from 0 bs

unfoldable pub booking_frames : List Booking → List ℕ
booking_frames [] = []
booking_frames (b ∷ bs) = booking_frame b ++ booking_frames bs

unfoldable pub job_frames : List Job → List ℕ
job_frames [] = []
job_frames (j ∷ js) = job_frame j ++ job_frames js

-- "The writer gives the head, the jobs in order, and the end, all version 1." Bookings stand between head and jobs.
abbrev pub sheet_bytes : Contents → List ℕ
sheet_bytes c = head_frame c.head ++ booking_frames (bookings c.booked) ++ job_frames c.jobs ++ end_frame
