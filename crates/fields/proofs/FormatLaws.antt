-- The frames that the writer gives, and their lengths in bytes.
--     head_values, booking_values, job_values  the values of the packed fields of a head, a booking and a job
--     head_body, booking_body, job_body, end_body  the body of the frame of each kind
--     length-head_body, length-booking_body, length-job_body  a head's body has 7 bytes, a booking's 4, a job's 11;
--         end_body-empty: an end has none
--     length-frame_bytes      a frame has 3 bytes more than its body
--     length-head_frame, length-booking_frame, length-job_frame, length-end_frame  10 bytes, 7, 14 and 3
--     length-booking_frames, length-job_frames    k bookings make 7 k bytes, n jobs 14 n
--     length-sheet_bytes      a sheet of k bookings above 0 and n jobs has 13 + 7 k + 14 n bytes
--     booking_frames-append, job_frames-append    the frames of two lists, one list after the other
use Prim.Native.Nat.{ℕ, ◌+◌, ◌*◌}
use native.Mathlib.Omega.{arith}
use mathlib.Core.Path.{◌≡◌, refl, ap, ◌∙◌}
use mathlib.Core.List.{List, [], ◌∷◌, ◌++◌, append_assoc}
use lib.ListN.{length, length-append}
use Rattle.bits.specs.Bits.{bytes_of}
use Rattle.bits.specs.Layout.{packed}
use Rattle.bits.proofs.LayoutLaws.{length-packed}
use Rattle.fields.specs.declared.sheet.Head.{Head}
use Rattle.fields.specs.declared.sheet.Booking.{Booking}
use Rattle.fields.specs.declared.sheet.Job.{Job}
use Rattle.fields.specs.Contents.{Contents}
use Rattle.fields.specs.Format.{header_layout, head_layout, job_layout, end_layout, booking_layout, ours}
use Rattle.fields.specs.Format.{head_kind, job_kind, end_kind, booking_kind, frame_bytes}
use Rattle.fields.specs.Format.{head_frame, booking_frame, job_frame, end_frame, bookings, booking_frames, job_frames}
use Rattle.fields.specs.Format.{sheet_bytes}

abbrev pub head_values : Head → List ℕ
head_values h = h.benches ∷ h.p ∷ h.q ∷ h.target ∷ 0 ∷ []

abbrev pub booking_values : Booking → List ℕ
booking_values b = b.bench ∷ b.minutes ∷ 0 ∷ []

abbrev pub job_values : Job → List ℕ
job_values j = j.minutes ∷ j.allowed ∷ 0 ∷ []

abbrev pub head_body : Head → List ℕ
head_body h = packed head_layout (head_values h)

abbrev pub booking_body : Booking → List ℕ
booking_body b = packed booking_layout (booking_values b)

abbrev pub job_body : Job → List ℕ
job_body j = packed job_layout (job_values j)

abbrev pub end_body : List ℕ
end_body = packed end_layout []

pub length-frame_bytes : (kind : ℕ) (body : List ℕ) → length (frame_bytes kind body) ≡ 3 + length body
length-frame_bytes kind body =
    let header = packed header_layout (ours ∷ kind ∷ length body ∷ []) in
    length-append header body ∙ ap (λ (n : ℕ). n + length body) (length-packed header_layout (ours ∷ kind ∷ length body ∷ []) 3 refl)

pub length-head_body : (h : Head) → length (head_body h) ≡ 7
length-head_body h = length-packed head_layout (head_values h) 7 refl

pub length-booking_body : (b : Booking) → length (booking_body b) ≡ 4
length-booking_body b = length-packed booking_layout (booking_values b) 4 refl

pub length-job_body : (j : Job) → length (job_body j) ≡ 11
length-job_body j = length-packed job_layout (job_values j) 11 refl

pub end_body-empty : end_body ≡ []
unfolding bytes_of
end_body-empty = refl

pub length-head_frame : (h : Head) → length (head_frame h) ≡ 10
length-head_frame h = length-frame_bytes head_kind (head_body h) ∙ ap (λ (n : ℕ). 3 + n) (length-head_body h)

pub length-booking_frame : (b : Booking) → length (booking_frame b) ≡ 7
length-booking_frame b = length-frame_bytes booking_kind (booking_body b) ∙ ap (λ (n : ℕ). 3 + n) (length-booking_body b)

pub length-job_frame : (j : Job) → length (job_frame j) ≡ 14
length-job_frame j = length-frame_bytes job_kind (job_body j) ∙ ap (λ (n : ℕ). 3 + n) (length-job_body j)

pub length-end_frame : length end_frame ≡ 3
length-end_frame = length-frame_bytes end_kind end_body ∙ ap (λ (s : List ℕ). 3 + length s) end_body-empty

pub length-booking_frames : (bs : List Booking) → length (booking_frames bs) ≡ 7 * length bs
unfolding booking_frames
length-booking_frames [] = refl
length-booking_frames (b ∷ bs) =
    length-append (booking_frame b) (booking_frames bs) ∙ omega (arith, length-booking_frame b, length-booking_frames bs)

pub length-job_frames : (js : List Job) → length (job_frames js) ≡ 14 * length js
unfolding job_frames
length-job_frames [] = refl
length-job_frames (j ∷ js) = length-append (job_frame j) (job_frames js) ∙ omega (arith, length-job_frame j, length-job_frames js)

pub length-sheet_bytes : (c : Contents)
    → length (sheet_bytes c) ≡ 13 + 7 * length (bookings c.booked) + 14 * length c.jobs
length-sheet_bytes c =
    let front = head_frame c.head ++ booking_frames (bookings c.booked) in
    length-append (front ++ job_frames c.jobs) end_frame
    ∙ omega (
      arith,
      length-append front (job_frames c.jobs),
      length-append (head_frame c.head) (booking_frames (bookings c.booked)),
      length-head_frame c.head,
      length-booking_frames (bookings c.booked),
      length-job_frames c.jobs,
      length-end_frame,
    )

pub booking_frames-append : (first second : List Booking)
    → booking_frames (first ++ second) ≡ booking_frames first ++ booking_frames second
unfolding booking_frames
booking_frames-append [] second = refl
booking_frames-append (b ∷ first) second = rw (booking_frames-append first second, append_assoc (booking_frame b))

pub job_frames-append : (first second : List Job) → job_frames (first ++ second) ≡ job_frames first ++ job_frames second
unfolding job_frames
job_frames-append [] second = refl
job_frames-append (j ∷ first) second = rw (job_frames-append first second, append_assoc (job_frame j))
