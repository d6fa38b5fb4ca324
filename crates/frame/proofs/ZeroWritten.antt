-- Sheets that the law of a booking of 0 minutes applies to (ZeroBooking): a row of frames, and what the writer gives.
--     NotBookingOf b f        the frame f is no booking of bench b
--     RowWithout b s          s is a row of whole frames, none a booking of bench b
--     row_no_booking          so reading s comes to no booking of b
--     head_read h             the progress behind the head h
--     head_place              right behind a sound head is a place for a booking of any of its benches
--     behind_head c           what the writer gives behind the head
--     written_without         what the writer gives has no booking of a bench with nothing booked
--     read-zero-written       so what the writer gives, with the frame added behind the head, is read back all the same
use Prim.Native.Nat.{ℕ, suc, ◌+◌, ◌^◌, ◌≤◌, ◌<◌}
use mathlib.Core.Path.{◌≡◌, refl, sym, ap, ◌∙◌, subst}
use mathlib.Core.Logic.{◌≢◌, inl, inr}
use mathlib.Core.List.{List, [], ◌∷◌, ◌++◌, append_assoc, append-nil}
use native.Mathlib.Nat.{zero-add}
use native.Mathlib.Omega.{arith}
use lib.ListN.{length, get_or, length-append}
use lib.Seq.{take_at}
use lib.Dec.{eqb, lit<}
use borrow.Author.Tests.{eq-eqb}
use Rattle.bools.proofs.BoolLaws.{split, tests}
use Rattle.bools.proofs.OrderLaws.{lt-or-le}
use Rattle.fields.specs.declared.sheet.Head.{Head}
use Rattle.fields.specs.declared.sheet.Booking.{Booking}
use Rattle.fields.specs.declared.sheet.Job.{Job}
use Rattle.fields.specs.Contents.{Contents, booked_at, no_bookings}
use Rattle.judging.specs.declared.judge.Stage.TheVariants.{Start}
use Rattle.std.specs.Prelude.{Ok}
use Rattle.fields.specs.Format.{ours, head_kind, job_kind, end_kind, booking_kind, version_of, kind_of, frame_size, body_of}
use Rattle.fields.specs.Format.{booking_of, frame_bytes, head_frame, booking_frame, job_frame, end_frame}
use Rattle.fields.specs.Format.{booked_from, bookings, booking_frames, job_frames, sheet_bytes}
use Rattle.fields.specs.Tests.{first_fault, none_had, head_faults, job_at}
use Rattle.fields.proofs.FormatLaws.{head_body, booking_body, job_body, end_body, length-head_body, length-booking_body}
use Rattle.fields.proofs.FormatLaws.{length-job_body, length-frame_bytes, length-head_frame}
use Rattle.fields.proofs.FormatLaws.{length-sheet_bytes, end_body-empty}
use Rattle.bookings.proofs.BookingLaws.{few-bookings}
use Rattle.judging.specs.FrameTests.{frame_faults}
use Rattle.frame.specs.Reading.{Progress, accepted, nothing_read, faults_at}
use Rattle.frame.specs.Reading.{after_head, after, read_sheet}
use Rattle.frame.specs.Sound.{SoundHead}
use Rattle.frame.specs.Writing.{as_read, writer_verdict}
use Rattle.frame.specs.Frames.{WholeFrame, Reached, start, past_foreign, past_sound}
use Rattle.frame.specs.Frames.{from_on, moved_read_by, moved_read, BookingPlace, NoBookingOf}
use Rattle.frame.proofs.WholeFrames.{whole_unique}
use Rattle.frame.proofs.FirstFault.{none_holds}
use Rattle.frame.proofs.WriterLaws.{sound-head, sound-bookings, writer_verdict-sound}
use Rattle.frame.proofs.RoundTrip.{version_of-frame, kind_of-frame, body_of-frame, frame_size-frame}
use Rattle.frame.proofs.RoundTrip.{Fit-head, Fit-booking, head_of-head_body, spare_of-head_body}
use Rattle.frame.proofs.RoundTrip.{booking_of-booking_body, reading, write_read}
use Rattle.frame.proofs.ZeroBooking.{zero_booking, read-zero-booking}

-- ── rows of frames ──

-- The premises of the law, for sheets that are a row of whole frames: right behind the head, for a bench that none of
-- the frames books.
abbrev pub NotBookingOf : ℕ → List ℕ → Type 0
NotBookingOf b f = version_of f ≡ ours → kind_of f ≡ booking_kind → (booking_of (body_of f)).bench ≢ b

pub data RowWithout (b : ℕ) : List ℕ → Type 0 where
  none_left : RowWithout b []
  other_frame : {f s : List ℕ} → WholeFrame f → NotBookingOf b f → RowWithout b s → RowWithout b (f ++ s)

module _ {b : ℕ} where
  row_front : {s : List ℕ} → RowWithout b s → (f rest : List ℕ) → WholeFrame f → s ≡ f ++ rest
      → NotBookingOf b f × RowWithout b rest
  row_front none_left f rest w e = absurd (omega (arith, ap length e, length-append f rest, w.header))
  row_front (other_frame {f = f'} {s = s} w' other row) f rest w e =
      let u = whole_unique f' s f rest w' w e in
      (subst (NotBookingOf b) u.0 other, subst (RowWithout b) u.1 row)

  row_reached : {s : List ℕ} {at : ℕ} {rest : List ℕ} {g : Progress} → RowWithout b s → Reached s at rest g
      → RowWithout b rest
  row_reached row start = row
  row_reached row (past_foreign {f = f} {rest = rest} r w) = (row_front (row_reached row r) f rest w.whole refl).1
  row_reached row (past_sound {f = f} {rest = rest} r w v n) = (row_front (row_reached row r) f rest w refl).1

  pub row_no_booking : {s : List ℕ} → RowWithout b s → NoBookingOf b s
  row_no_booking row at f rest g r w v k = (row_front (row_reached row r) f rest w refl).0 v k

-- A frame of version 1, with nothing behind it.
module _ (kind : ℕ) (body : List ℕ) (kind_fits : kind < 2 ^ 4) (body-fits : length body < 2 ^ 16) where
  alone : frame_bytes kind body ≡ frame_bytes kind body ++ []
  alone = sym (append-nil (frame_bytes kind body))

  frame_whole : WholeFrame (frame_bytes kind body)
  frame_whole =
      record {
        header = omega (arith, length-frame_bytes kind body);
        size = ap frame_size alone ∙ frame_size-frame kind body [] kind_fits body-fits;
      }

  frame-ours : version_of (frame_bytes kind body) ≡ ours
  frame-ours = ap version_of alone ∙ version_of-frame kind body [] kind_fits body-fits

  frame_kind : kind_of (frame_bytes kind body) ≡ kind
  frame_kind = ap kind_of alone ∙ kind_of-frame kind body [] kind_fits body-fits

  frame_body : body_of (frame_bytes kind body) ≡ body
  frame_body = ap body_of alone ∙ body_of-frame kind body [] kind_fits body-fits

  row_other_kind : (b : ℕ) (rest : List ℕ) → kind ≢ booking_kind → RowWithout b rest
      → RowWithout b (frame_bytes kind body ++ rest)
  row_other_kind b rest n row = other_frame frame_whole (λ v k. absurd (n (sym frame_kind ∙ k))) row

row_jobs : (b : ℕ) (js : List Job) (rest : List ℕ) → RowWithout b rest → RowWithout b (job_frames js ++ rest)
unfolding job_frames
row_jobs b [] rest row = row
row_jobs b (j ∷ js) rest row =
    rw (append_assoc (job_frame j) (job_frames js) rest)
    (row_other_kind job_kind (job_body j) (lit< tt) (omega (arith, length-job_body j)) b _ (λ e. omega arith)
    (row_jobs b js rest row))

row-bookings : (b m i : ℕ) (ns rest : List ℕ) → m ≤ 64 → ((x : ℕ) → get_or ns x 0 < 2 ^ 20)
    → ((x : ℕ) → m ≤ i + x → get_or ns x 0 ≡ 0) → ((x : ℕ) → i + x ≡ b → get_or ns x 0 ≡ 0)
    → RowWithout b rest → RowWithout b (booking_frames (booked_from i ns) ++ rest)
unfolding booked_from booking_frames
row-bookings b m i [] rest few fits held free row = row
row-bookings b m i (n ∷ ns) rest few fits held free row =
    let behind =
    row-bookings b m (suc i) ns rest few (λ x. fits (suc x)) (λ x l. held (suc x) (omega arith))
    (λ x e. free (suc x) (omega arith)) row in
    elim (split (eqb n 0)) [
      | inl p ↦ rw p behind
      | inr p ↦
          let k : Booking = record { bench = i; minutes = n } in
          let inside : i < 64 = elim (lt-or-le i m) [
            | inl l ↦ omega arith
            | inr l ↦ absurd (let z : n ≡ 0 = held 0 (omega arith) in omega tests)
          ] in
          let other : i ≢ b = λ e. let z : n ≡ 0 = free 0 (omega arith) in omega tests in
          let size : length (booking_body k) < 2 ^ 16 = omega (arith, length-booking_body k) in
          let holds : booking_of (body_of (booking_frame k)) ≡ k =
          ap booking_of (frame_body booking_kind (booking_body k) (lit< tt) size)
          ∙ booking_of-booking_body k (Fit-booking k inside (fits 0)) in
          rw (p, append_assoc (booking_frame k) (booking_frames (booked_from (suc i) ns)) rest)
          (other_frame (frame_whole booking_kind (booking_body k) (lit< tt) size)
          (λ v q e. other (sym (ap (λ (x : Booking). x.bench) holds) ∙ e)) behind)
    ]

abbrev pub head_read : Head → Progress
head_read h = reading none_had (record { head = h; booked = no_bookings; jobs = [] })

module _ (h : Head) (ok : SoundHead h) (rest : List ℕ) where
  size_fits : length (head_body h) < 2 ^ 16
  size_fits = omega (arith, length-head_body h)

  head_passes : first_fault (frame_faults Start 0 0 none_had 0 head_kind (head_body h)) ≡ Ok tt
  unfolding frame_faults
  head_passes =
      let fit = Fit-head h ok in
      rw (eq-eqb (length (head_body h)) 7 (length-head_body h), eq-eqb _ 0 (spare_of-head_body h fit))
      (ap (λ (x : Head). first_fault (head_faults x 0)) (head_of-head_body h fit) ∙ sound-head h 0 ok)

  after-head_frame : after nothing_read (kind_of (head_frame h)) (body_of (head_frame h)) ≡ head_read h
  unfolding after
  after-head_frame =
      rw (frame_kind head_kind (head_body h) (lit< tt) size_fits, frame_body head_kind (head_body h) (lit< tt) size_fits)
      (ap (after_head nothing_read) (head_of-head_body h (Fit-head h ok)))

  head_reached : Reached (head_frame h ++ rest) 10 rest (head_read h)
  head_reached =
      let whole = frame_whole head_kind (head_body h) (lit< tt) size_fits in
      let first : version_of (head_frame h) ≡ ours = frame-ours head_kind (head_body h) (lit< tt) size_fits in
      let passes : first_fault (faults_at nothing_read 0 (head_frame h)) ≡ Ok tt =
      rw (frame_kind head_kind (head_body h) (lit< tt) size_fits, frame_body head_kind (head_body h) (lit< tt) size_fits)
      head_passes in
      let there :
      Reached (head_frame h ++ rest) (0 + length (head_frame h)) rest
      (after nothing_read (kind_of (head_frame h)) (body_of (head_frame h))) =
      past_sound start whole first (none_holds (faults_at nothing_read 0 (head_frame h)) passes) in
      subst (λ (at : ℕ). Reached (head_frame h ++ rest) at rest (head_read h))
      (zero-add (length (head_frame h)) ∙ length-head_frame h)
      (subst (λ (g : Progress). Reached (head_frame h ++ rest) (0 + length (head_frame h)) rest g) after-head_frame there)

  pub head_place : (b : ℕ) → b < h.benches → BookingPlace (head_frame h ++ rest) b 10 rest (head_read h)
  head_place b below = record { reached = head_reached; stage_is = refl; no_job = refl; bench_of_head = below }

accepted_moved : (by : ℕ → ℕ) (c : Contents) → moved_read_by by (accepted c) ≡ accepted c
unfolding moved_read_by
accepted_moved by c = refl

abbrev pub behind_head : Contents → List ℕ
behind_head c = booking_frames (bookings c.booked) ++ (job_frames c.jobs ++ end_frame)

written_parts : (c : Contents) → sheet_bytes c ≡ head_frame c.head ++ behind_head c
written_parts c =
    let head = head_frame c.head in
    let booked = booking_frames (bookings c.booked) in
    append_assoc (head ++ booked) (job_frames c.jobs) end_frame
    ∙ append_assoc head booked (job_frames c.jobs ++ end_frame)

module _ (c : Contents) (e : writer_verdict c ≡ Ok tt) where
  pub written_without : (b : ℕ) → booked_at c.booked b ≡ 0 → RowWithout b (head_frame c.head ++ behind_head c)
  written_without b free =
      let ok = writer_verdict-sound c e in
      let h = c.head in
      let ending : RowWithout b end_frame =
      subst (RowWithout b) (append-nil end_frame)
      (row_other_kind end_kind end_body (lit< tt) (omega (arith, ap length end_body-empty)) b [] (λ q. omega arith)
      none_left) in
      row_other_kind head_kind (head_body h) (lit< tt) (omega (arith, length-head_body h)) b _ (λ q. omega arith)
      (row-bookings b h.benches 0 c.booked (job_frames c.jobs ++ end_frame) ok.head.at_most_64_benches
      ok.bookings.booked_fit (λ x l. ok.bookings.none_past_head x (omega arith))
      (λ x q. ap (booked_at c.booked) (sym (zero-add x) ∙ q) ∙ free)
      (row_jobs b c.jobs end_frame ending))

  pub read-zero-written : ((i : ℕ) → i < length c.jobs → (job_at c.jobs i).allowed < 2 ^ 64)
      → (b : ℕ) → b < c.head.benches → booked_at c.booked b ≡ 0
      → read_sheet (head_frame c.head ++ (booking_frame (zero_booking b) ++ behind_head c)) ≡ accepted (as_read c)
  read-zero-written narrow b below free =
      let ok = writer_verdict-sound c e in
      let s : List ℕ = head_frame c.head ++ behind_head c in
      let m : ℕ = c.head.benches in
      let benches : m ≤ 64 = ok.head.at_most_64_benches in
      let few = few-bookings m c.booked (sound-bookings m c.booked ok.bookings) in
      let size : length s + 7 ≤ 65536 =
      omega (arith, ap length (written_parts c), length-sheet_bytes c, ok.at_most_512_jobs) in
      ap (λ (a : List ℕ). read_sheet (a ++ (booking_frame (zero_booking b) ++ behind_head c)))
      (sym (take_at (head_frame c.head) (behind_head c) 10 (length-head_frame c.head)))
      ∙ read-zero-booking s b 10 (behind_head c) (head_read c.head)
      (head_place c.head ok.head (behind_head c) b below) (row_no_booking (written_without b free)) size
      ∙ ap (λ (t : List ℕ). moved_read 10 7 (read_sheet t)) (sym (written_parts c))
      ∙ ap (moved_read 10 7) (write_read c e narrow)
      ∙ accepted_moved (from_on 10 7) (as_read c)
