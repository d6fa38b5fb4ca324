-- What the functions that put frames do to their output. A law's premises are what the calls before it ensure.
--     written out at s end    out with its bytes from at up to end replaced by s
--     written_after           a second write where the first one ends: the two are one write of both strings
--     number_put              the last k of the eight bytes of v stored are its k bytes
--     frame_put-room, frame_put-none  a frame put where there is room for it, and where there is none
--     NarrowHead h            each number of the head h fits its field
--     cut_head-fits, cut_booking-fits, cut_job-fits   numbers that fit their fields are not cut
--     part_put, booking_part  a frame, and a booking's frame, put into a part of the output that is as long
--     head_fits, job_fits, end_fits   a frame of numbers that fit, put where there is room
--     head_none, booking_none, job_none, end_none     the output is too short: nothing is put
--     body_put                a header and a body, put one behind the other, are their frame
--     head_put, booking_put   so for a head and for a booking
--     job_put                 a header and the two parts of a job's body are the job's frame
--     high_fits               the first eight bytes of a job's body are a number below 2 ^ 64
--     end_put                 a header is the end's frame
use Prim.Native.Nat.{ℕ, zero, suc, ◌+◌, ◌-◌, ◌*◌, ◌/◌, ◌%◌, ◌^◌, ◌≤◌, ◌<◌}
use native.Mathlib.Nat.{zero-add, suc-add, add-sub_of_le, div-one, mod-eq_of_lt}
use native.Mathlib.Omega.{arith}
use mathlib.Core.Path.{◌≡◌, sym, ap, ◌∙◌}
use mathlib.Core.List.{List, [], ◌∷◌, ◌++◌, append_assoc, append-nil}
use lib.ListN.{length, take, drop, length-append, length-take, length-drop, drop_of_length-le}
use lib.Seq.{length-take-le, take_all, take_at, drop_at, drop-drop}
use borrow.Rule.Slice.PartMut.{put_mid, Post-is}
use Rattle.std.specs.Int.{bytes_high_first}
use borrow.Author.Tests.{le-leb, lt-leb}
use Rattle.bits.specs.Bits.{bytes_of}
use Rattle.bits.specs.Layout.{joined, packed}
use Rattle.bits.proofs.BytesLaws.{length-bytes_of, bytes_of-append}
use Rattle.fields.specs.declared.sheet.Booking.{Booking}
use Rattle.fields.specs.declared.sheet.Head.{Head}
use Rattle.fields.specs.declared.sheet.Job.{Job}
use Rattle.fields.specs.Format.{ours, head_kind, job_kind, end_kind, booking_kind, frame_bytes}
use Rattle.fields.specs.Format.{header_layout, head_layout, job_layout, booking_layout}
use Rattle.fields.specs.Format.{head_frame, booking_frame, job_frame, end_frame}
use Rattle.fields.proofs.FormatLaws.{head_values, booking_values, job_values, end_body-empty, length-head_body}
use Rattle.fields.proofs.FormatLaws.{length-booking_body, length-job_body, length-frame_bytes}
use Rattle.fields.proofs.FormatLaws.{length-head_frame, length-booking_frame, length-job_frame, length-end_frame}
use Rattle.packing.specs.Packing.{cut_head, cut_booking, cut_job, frame_put}

-- ── two writes, one behind the other ──

abbrev pub written : List ℕ → ℕ → List ℕ → ℕ → List ℕ
written out at s end = take at out ++ s ++ drop end out

length_front : (out : List ℕ) (at : ℕ) (s : List ℕ) → at ≤ length out → length (take at out ++ s) ≡ at + length s
length_front out at s h = length-append (take at out) s ∙ ap (λ (n : ℕ). n + length s) (length-take-le at out h)

pub written_after : (out : List ℕ) (at : ℕ) (a b : List ℕ) (mid end : ℕ) → at ≤ length out → at + length a ≡ mid → mid ≤ end
    → written (written out at a mid) mid b end ≡ written out at (a ++ b) end
written_after out at a b mid end h e l =
    let front : length (take at out ++ a) ≡ mid = length_front out at a h ∙ e in
    let rest : drop end (written out at a mid) ≡ drop end out =
    ap (λ (n : ℕ). drop n (written out at a mid)) (sym (add-sub_of_le l))
    ∙ sym (drop-drop (end - mid) mid (written out at a mid))
    ∙ ap (drop (end - mid)) (drop_at (take at out ++ a) (drop mid out) mid front)
    ∙ drop-drop (end - mid) mid out
    ∙ ap (λ (n : ℕ). drop n out) (add-sub_of_le l) in
    rw (take_at (take at out ++ a) (drop mid out) mid front, rest, append_assoc (take at out) a b)

-- ── the bytes of a number ──

all_bytes : (v : ℕ) → bytes_high_first 8 v ≡ bytes_of 8 v
unfolding bytes_of
all_bytes v = rw div-one

low_bytes : (n k v : ℕ) → drop n (bytes_of (n + k) v) ≡ bytes_of k v
unfolding bytes_of
low_bytes zero k v = rw zero-add
low_bytes (suc n) k v = rw suc-add (low_bytes n k v)

-- The last k of the eight bytes of v, stored at byte at.
pub number_put : (out : List ℕ) (at k v : ℕ) (bytes part : List ℕ) → k ≤ 8 → bytes ≡ bytes_high_first 8 v
    → part ≡ take (8 - (8 - k)) (drop (8 - k) bytes) → put_mid at (at + k - at) out part ≡ written out at (bytes_of k v) (at + k)
number_put out at k v bytes part few e p =
    let eight : 8 ≡ 8 - k + k = omega arith in
    let low : drop (8 - k) bytes ≡ bytes_of k v =
    ap (drop (8 - k)) (e ∙ all_bytes v ∙ ap (λ (n : ℕ). bytes_of n v) eight) ∙ low_bytes (8 - k) k v in
    let all : part ≡ bytes_of k v =
    p ∙ ap (take (8 - (8 - k))) low ∙ take_all (8 - (8 - k)) (bytes_of k v) (omega (arith, length-bytes_of k v)) in
    rw (all, Post-is at (at + k) out (omega arith)) (sym (append_assoc (take at out) (bytes_of k v) (drop (at + k) out)))

-- ── a frame where there is room, and where there is none ──

module _ (frame : List ℕ) (at : ℕ) (out : List ℕ) (end : ℕ) (ends : at + length frame ≡ end) where
  pub frame_put-room : end ≤ length out → frame_put frame at out ≡ written out at frame end
  unfolding frame_put
  frame_put-room l = rw (ends, le-leb end (length out) l)

  pub frame_put-none : length out < end → out ≡ frame_put frame at out
  unfolding frame_put
  frame_put-none l = rw (ends, lt-leb end (length out) l)

-- ── numbers that fit ──

abbrev pub NarrowHead : Head → Type 0
NarrowHead h = (h.benches < 128) × (h.p < 128) × (h.q < 128) × (h.target < 2 ^ 30)

pub cut_head-fits : (h : Head) → NarrowHead h → cut_head h ≡ h
cut_head-fits h (b, p, q, t) = rw (mod-eq_of_lt b, mod-eq_of_lt p, mod-eq_of_lt q, mod-eq_of_lt t)

pub cut_booking-fits : (b : Booking) → b.bench < 64 → b.minutes < 2 ^ 20 → cut_booking b ≡ b
cut_booking-fits b v m = rw (mod-eq_of_lt v, mod-eq_of_lt m)

pub cut_job-fits : (j : Job) → j.minutes < 2 ^ 20 → cut_job j ≡ j
cut_job-fits j m = rw (mod-eq_of_lt m)

pub head_fits : (h : Head) (out : List ℕ) → NarrowHead h → 10 ≤ length out
    → frame_put (head_frame (cut_head h)) 0 out ≡ head_frame h ++ drop 10 out
head_fits h out narrow l =
    ap (λ (k : Head). frame_put (head_frame k) 0 out) (cut_head-fits h narrow)
    ∙ frame_put-room (head_frame h) 0 out 10 (omega (arith, length-head_frame h)) l

-- A part of an output that is as long as the frame becomes the frame.
pub part_put : (frame out : List ℕ) (n at : ℕ) → n ≡ length frame → at + length frame ≤ length out
    → frame_put frame 0 (take n (drop at out)) ≡ frame
part_put frame out n at e l =
    let part = take n (drop at out) in
    let size : length part ≡ length frame = omega (arith, length-take n (drop at out), length-drop at out) in
    frame_put-room frame 0 part (length frame) (omega arith) (omega arith)
    ∙ ap (λ (rest : List ℕ). frame ++ rest) (drop_of_length-le part {i = length frame} (omega arith))
    ∙ append-nil frame

pub booking_part : (b : Booking) (out : List ℕ) {n : ℕ} → n ≡ 7 → (at : ℕ) → at + 7 ≤ length out
    → frame_put (booking_frame (cut_booking b)) 0 (take n (drop at out)) ≡ booking_frame (cut_booking b)
booking_part b out {n} e at l =
    let size = length-booking_frame (cut_booking b) in
    part_put (booking_frame (cut_booking b)) out n at (omega arith) (omega arith)

pub job_fits : (j : Job) (out : List ℕ) {n : ℕ} → n ≡ 14 → (at : ℕ) → j.minutes < 2 ^ 20 → at + 14 ≤ length out
    → frame_put (job_frame (cut_job j)) 0 (take n (drop at out)) ≡ job_frame j
job_fits j out {n} e at m l =
    let size = length-job_frame j in
    ap (λ (k : Job). frame_put (job_frame k) 0 (take n (drop at out))) (cut_job-fits j m)
    ∙ part_put (job_frame j) out n at (omega arith) (omega arith)

pub end_fits : (at : ℕ) (out : List ℕ) → at + 3 ≤ length out
    → frame_put end_frame at out ≡ written out at end_frame (at + 3)
end_fits at out l = frame_put-room end_frame at out (at + 3) (omega (arith, length-end_frame)) l

-- ── a frame ──

pub head_none : (h : Head) (out : List ℕ) → length out < 10 → out ≡ frame_put (head_frame h) 0 out
head_none h out l = frame_put-none (head_frame h) 0 out 10 (omega (arith, length-head_frame h)) l

-- A body of n bytes, put as one number.
pub body_put : (out : List ℕ) (kind n fields : ℕ) (body : List ℕ) {header : ℕ} {one two : List ℕ} → length body ≡ n
    → 3 + n ≤ length out → bytes_of n fields ≡ body
    → header ≡ joined header_layout (ours ∷ kind ∷ n ∷ []) → one ≡ written out 0 (bytes_of 3 header) 3
    → two ≡ written one 3 (bytes_of n fields) (3 + n)
    → two ≡ frame_put (frame_bytes kind body) 0 out
body_put out kind n fields body {header} {two = two} size l same e first second =
    let a = bytes_of 3 header in
    let header-end : 0 + length a ≡ 3 = omega (arith, length-bytes_of 3 header) in
    let both : two ≡ written out 0 (a ++ bytes_of n fields) (3 + n) =
    second ∙ rw first (written_after out 0 a (bytes_of n fields) 3 (3 + n) (omega arith) header-end (omega arith)) in
    let whole : two ≡ written out 0 (frame_bytes kind body) (3 + n) = both ∙ rw (e, size, same) in
    whole ∙ sym (frame_put-room (frame_bytes kind body) 0 out (3 + n) (omega (arith, length-frame_bytes kind body)) l)

pub head_put : (out : List ℕ) (h : Head) {header fields : ℕ} {one two : List ℕ} → 10 ≤ length out
    → fields ≡ joined head_layout (head_values h)
    → header ≡ joined header_layout (ours ∷ head_kind ∷ 7 ∷ []) → one ≡ written out 0 (bytes_of 3 header) 3
    → two ≡ written one 3 (bytes_of 7 fields) 10
    → two ≡ frame_put (head_frame h) 0 out
head_put out h {fields = fields} l body e first second =
    body_put out head_kind 7 fields (packed head_layout (head_values h)) (length-head_body h) l (ap (bytes_of 7) body)
    e first second

pub booking_none : (b : Booking) (out : List ℕ) → length out < 7 → out ≡ frame_put (booking_frame b) 0 out
booking_none b out l = frame_put-none (booking_frame b) 0 out 7 (omega (arith, length-booking_frame b)) l

pub booking_put : (out : List ℕ) (b : Booking) {header fields : ℕ} {one two : List ℕ} → 7 ≤ length out
    → fields ≡ joined booking_layout (booking_values b)
    → header ≡ joined header_layout (ours ∷ booking_kind ∷ 4 ∷ []) → one ≡ written out 0 (bytes_of 3 header) 3
    → two ≡ written one 3 (bytes_of 4 fields) 7
    → two ≡ frame_put (booking_frame b) 0 out
booking_put out b {fields = fields} l body e first second =
    body_put out booking_kind 4 fields (packed booking_layout (booking_values b)) (length-booking_body b) l
    (ap (bytes_of 4) body) e first second

joined-fits : (x y : ℕ) → x < 1048576 → y < 17592186044416 → x * 17592186044416 + y < 2 ^ 64
joined-fits x y hx hy = omega arith

pub high_fits : (m a : ℕ) → m < 2 ^ 20 → a < 2 ^ 64 → m * 17592186044416 + a / 1048576 < 2 ^ 64
high_fits m a l h = joined-fits m (a / 1048576) l (omega arith)

pub job_none : (j : Job) (at : ℕ) (out : List ℕ) → length out < at + 14 → out ≡ frame_put (job_frame j) at out
job_none j at out l = frame_put-none (job_frame j) at out (at + 14) (omega (arith, length-job_frame j)) l

-- The body's eleven bytes are eight of its high part and three of its low one.
pub job_put : (out : List ℕ) (j : Job) (at : ℕ) {header high low : ℕ} {one two three : List ℕ}
    → at + 14 ≤ length out
    → high ≡ j.minutes * 17592186044416 + j.allowed / 1048576 → low ≡ j.allowed % 1048576 * 16
    → header ≡ joined header_layout (ours ∷ job_kind ∷ 11 ∷ []) → one ≡ written out at (bytes_of 3 header) (at + 3)
    → two ≡ written one (at + 3) (bytes_of 8 high) (at + 3 + 8)
    → three ≡ written two (at + 11) (bytes_of 3 low) (at + 11 + 3)
    → three ≡ frame_put (job_frame j) at out
job_put out j at {header} {high} {low} {two = two} {three = three} l is-high is-low e first second third =
    let a = bytes_of 3 header in
    let body : high * 256 ^ 3 + low ≡ joined job_layout (job_values j) = omega arith in
    let middle : at + 3 + 8 ≡ at + 11 = omega arith in
    let end : at + 11 + 3 ≡ at + 14 = omega arith in
    let header-end : at + length a ≡ at + 3 = omega (arith, length-bytes_of 3 header) in
    let high_end : at + length (a ++ bytes_of 8 high) ≡ at + 11 = omega (arith, header-end, length-append a (bytes_of 8 high), length-bytes_of 8 high) in
    let both : two ≡ written out at (a ++ bytes_of 8 high) (at + 11) =
    second ∙ rw (first, middle) (written_after out at a (bytes_of 8 high) (at + 3) (at + 11) (omega arith) header-end (omega arith)) in
    let all : three ≡ written out at (a ++ bytes_of 8 high ++ bytes_of 3 low) (at + 14) =
    third ∙ rw (both, end) (written_after out at (a ++ bytes_of 8 high) (bytes_of 3 low) (at + 11) (at + 14) (omega arith) high_end (omega arith)) in
    let whole : three ≡ written out at (job_frame j) (at + 14) =
    all
    ∙ rw (append_assoc a (bytes_of 8 high) (bytes_of 3 low), e, length-job_body j, ← body)
    (rw (bytes_of-append 8 3 high low (omega arith))) in
    whole ∙ sym (frame_put-room (job_frame j) at out (at + 14) (omega (arith, length-job_frame j)) l)

pub end_none : (at : ℕ) (out : List ℕ) → length out < at + 3 → out ≡ frame_put end_frame at out
end_none at out l = frame_put-none end_frame at out (at + 3) (omega (arith, length-end_frame)) l

pub end_put : (out : List ℕ) (at : ℕ) {header : ℕ} {one : List ℕ} → at + 3 ≤ length out
    → header ≡ joined header_layout (ours ∷ end_kind ∷ 0 ∷ []) → one ≡ written out at (bytes_of 3 header) (at + 3)
    → one ≡ frame_put end_frame at out
end_put out at {header} {one} l e first =
    let whole : one ≡ written out at end_frame (at + 3) = first ∙ rw (e, end_body-empty, append-nil) in
    whole ∙ sym (end_fits at out l)
