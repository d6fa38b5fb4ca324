-- What the writer gives is read back.
-- A frame of version 1 at the front of what is left to read:
--     version_of-frame, kind_of-frame, length_of-frame, body_of-frame  its fields and its body are those it was made of
--     frame_size-frame    its size is its length
--     drop-frame          what stands behind it
--     cut-frame           it is whole
--     read_from-frame     if it has no fault, reading goes on behind it
-- The frames of the writer:
--     Fit-head, Fit-booking, Fit-job      the numbers of a sound head, booking and job fit their fields
--     head_of-head_body, booking_of-booking_body, job_of-job_body  the body of a head, booking or job holds it
--     spare_of-head_body, spare_of-booking_body, spare_of-job_body  and its spare bits are 0
--     reading had c       the progress after the head, the bookings and the jobs of c
--     read_from-head_frame, read_from-booking_frame, read_from-job_frame, read_from-end_frame  each kind in its place is read
--     read_from-job_frames  so are the jobs of a list
-- The bookings of a table:
--     booked_into i ns bs  the numbers bs with the entries of ns above 0, the first of them for bench i
--     booked_into-every   into 64 zeros they are one number for each of 64 benches
--     read_from-bookings  the frames of a table of bookings are read as these
-- The whole sheet:
--     write_read          accepted contents are read back from the bytes written
--     as_read-same        with 64 booked numbers they are the same contents
--     write_read_same     so these are read back as they were
--     write_read_computed the same by tests, for sheets on which they compute
--     sheet_bytes-injective       so the bytes written tell the contents
use Prim.Native.Nat.{ℕ, zero, suc, ◌+◌, ◌^◌, ◌≤◌, ◌<◌}
use native.Mathlib.Nat.{add-zero, zero-add, add-suc, suc-add, add_assoc}
use native.Mathlib.Omega.{arith}
use mathlib.Core.Path.{◌≡◌, refl, sym, ap, ◌∙◌}
use mathlib.Core.Bool.{Bool, true, false, cond}
use mathlib.Core.Logic.{inl, inr}
use mathlib.Core.List.{List, [], ◌∷◌, ◌++◌, append_assoc, append-nil}
use lib.ListN.{length, get_or, drop, set, length-append, length-set}
use lib.Seq.{take_at, drop_at, get_or-set_same, get_or-set_other, ext_get_or}
use lib.Dec.{eqb, ltb, lit<}
use borrow.Author.Tests.{eq-eqb, ne_eqb, le-ltb, lt-leb, ltb-true}
use Rattle.bools.proofs.OrderLaws.{lt-or-le}
use Rattle.bools.proofs.BoolLaws.{or-false, split, tests}
use Rattle.sums.specs.Table.{table}
use Rattle.sums.proofs.TableLaws.{length-table, get_or-table, table-get_or}
use Rattle.sums.specs.Search.{all}
use Rattle.sums.proofs.SearchLaws.{all_elim}
use Rattle.bits.specs.Bits.{bytes_of}
use Rattle.bits.specs.Layout.{packed, field, Fit}
use Rattle.bits.proofs.LayoutLaws.{length-packed, field-packed, field-packed-append}
use Rattle.fields.specs.declared.sheet.Head.{Head}
use Rattle.fields.specs.declared.sheet.Booking.{Booking}
use Rattle.fields.specs.declared.sheet.Job.{Job}
use Rattle.fields.specs.Contents.{Contents, booked_at, no_bookings, every_bench}
use Rattle.judging.specs.declared.judge.Stage.TheVariants.{Start, Open, Closed}
use Rattle.std.specs.Prelude.{Ok}
use Rattle.fields.specs.Format.{ours, head_kind, job_kind, end_kind, booking_kind, header_layout, head_layout, job_layout}
use Rattle.fields.specs.Format.{booking_layout, header_size, version_of, kind_of, length_of, frame_size, body_of}
use Rattle.fields.specs.Format.{head_of, job_of, booking_of, spare_of, frame_bytes, head_frame, booking_frame, job_frame, end_frame}
use Rattle.fields.specs.Format.{booked_from, bookings, booking_frames, job_frames, sheet_bytes}
use Rattle.fields.specs.Tests.{first_fault, none_had, head_faults, booking_faults, booking_fault, job_faults, job_at}
use Rattle.judging.specs.FrameTests.{frame_faults, cut}
use Rattle.frame.specs.Reading.{Progress, accepted, nothing_read, faults_at, with_booking, with_job, had_with, after}
use Rattle.frame.specs.Reading.{read_from, read_sheet}
use Rattle.frame.specs.Writing.{as_read, writer_verdict}
use Rattle.frame.specs.Sound.{SoundHead, SoundJob}
use Rattle.frame.proofs.ReadLaws.{read_from-over, read_from-next, read_from-enough}
use Rattle.fields.proofs.FormatLaws.{head_values, booking_values, job_values, head_body, booking_body, job_body}
use Rattle.fields.proofs.FormatLaws.{length-frame_bytes, length-head_body, length-booking_body, length-job_body}
use Rattle.fields.proofs.FormatLaws.{length-sheet_bytes}
use Rattle.bookings.proofs.BookingLaws.{few-bookings}
use Rattle.frame.proofs.AcceptedLaws.{no_bookings_lem}
use Rattle.frame.proofs.WriterLaws.{sound-head, sound-bookings, sound-job, writer_verdict-sound}

-- ── a frame at the front ──

abbrev header_values : ℕ → List ℕ → List ℕ
header_values kind body = ours ∷ kind ∷ length body ∷ []

abbrev header : ℕ → List ℕ → List ℕ
header kind body = packed header_layout (header_values kind body)

module _ (kind : ℕ) (body rest : List ℕ) (kind_fits : kind < 2 ^ 4) (body-fits : length body < 2 ^ 16) where
  header-field : (k : ℕ) → k < 3 → field header_layout k (frame_bytes kind body ++ rest) ≡ get_or (header_values kind body) k 0
  header-field k l =
      ap (field header_layout k) (append_assoc (header kind body) body rest)
      ∙ field-packed-append header_layout (header_values kind body) (body ++ rest) k 3 refl (lit< tt, (kind_fits, (body-fits, tt))) l

  pub version_of-frame : version_of (frame_bytes kind body ++ rest) ≡ ours
  version_of-frame = header-field 0 (lit< tt)

  pub kind_of-frame : kind_of (frame_bytes kind body ++ rest) ≡ kind
  kind_of-frame = header-field 1 (lit< tt)

  pub length_of-frame : length_of (frame_bytes kind body ++ rest) ≡ length body
  length_of-frame = header-field 2 (lit< tt)

  pub body_of-frame : body_of (frame_bytes kind body ++ rest) ≡ body
  body_of-frame =
      let behind : drop header_size (frame_bytes kind body ++ rest) ≡ body ++ rest =
      ap (drop 3) (append_assoc (header kind body) body rest)
      ∙ drop_at (header kind body) (body ++ rest) 3 (length-packed header_layout (header_values kind body) 3 refl) in
      rw (length_of-frame, behind) (take_at body rest (length body) refl)

  pub frame_size-frame : frame_size (frame_bytes kind body ++ rest) ≡ length (frame_bytes kind body)
  frame_size-frame = ap (λ (n : ℕ). 3 + n) length_of-frame ∙ sym (length-frame_bytes kind body)

  pub drop-frame : drop (frame_size (frame_bytes kind body ++ rest)) (frame_bytes kind body ++ rest) ≡ rest
  drop-frame = drop_at (frame_bytes kind body) rest (frame_size (frame_bytes kind body ++ rest)) (sym frame_size-frame)

  pub cut-frame : cut (frame_bytes kind body ++ rest) ≡ false
  cut-frame =
      let whole : frame_size (frame_bytes kind body ++ rest) ≤ length (frame_bytes kind body ++ rest) =
      omega (arith, frame_size-frame, length-append (frame_bytes kind body) rest) in
      or-false (le-ltb (length (frame_bytes kind body ++ rest)) 3 (omega arith)) (le-ltb _ _ whole)

  pub read_from-frame : (k at : ℕ) (g : Progress)
      → first_fault
      (frame_faults g.stage g.contents.head.benches (length g.contents.jobs) g.had at kind body)
      ≡ Ok tt
      → read_from (suc k) (frame_bytes kind body ++ rest) at g ≡ read_from k rest (at + length (frame_bytes kind body)) (after g kind body)
  read_from-frame k at g e =
      let frame = frame_bytes kind body ++ rest in
      let some : eqb (length frame) 0 ≡ false =
      ne_eqb (length frame) 0 (omega (arith, length-append (frame_bytes kind body) rest, length-frame_bytes kind body)) in
      let sound : first_fault (faults_at g at frame) ≡ Ok tt = rw (kind_of-frame, body_of-frame) e in
      read_from-next k frame at g some cut-frame (eq-eqb _ _ version_of-frame) sound
      ∙ rw (drop-frame, frame_size-frame, kind_of-frame, body_of-frame)

-- ── the bodies ──

pub Fit-head : (h : Head) → SoundHead h → Fit head_layout (head_values h)
Fit-head h s = omega arith

pub Fit-booking : (b : Booking) → b.bench < 64 → b.minutes < 2 ^ 20 → Fit booking_layout (booking_values b)
Fit-booking b v m = (v, (m, (lit< tt, tt)))

pub Fit-job : (m n : ℕ) (j : Job) → SoundJob m n j → j.allowed < 2 ^ 64 → Fit job_layout (job_values j)
Fit-job m n j s w = (s.minutes_fit, (w, (lit< tt, tt)))

module _ (h : Head) (fit : Fit head_layout (head_values h)) where
  head_body-field : (k : ℕ) → k < 5 → field head_layout k (head_body h) ≡ get_or (head_values h) k 0
  head_body-field k l = field-packed head_layout (head_values h) k 7 refl fit l

  pub head_of-head_body : head_of (head_body h) ≡ h
  head_of-head_body = rw (head_body-field 0 (lit< tt), head_body-field 1 (lit< tt), head_body-field 2 (lit< tt), head_body-field 3 (lit< tt))

  pub spare_of-head_body : spare_of head_kind (head_body h) ≡ 0
  spare_of-head_body = head_body-field 4 (lit< tt)

module _ (b : Booking) (fit : Fit booking_layout (booking_values b)) where
  booking_body-field : (k : ℕ) → k < 3 → field booking_layout k (booking_body b) ≡ get_or (booking_values b) k 0
  booking_body-field k l = field-packed booking_layout (booking_values b) k 4 refl fit l

  pub booking_of-booking_body : booking_of (booking_body b) ≡ b
  booking_of-booking_body = rw (booking_body-field 0 (lit< tt), booking_body-field 1 (lit< tt))

  pub spare_of-booking_body : spare_of booking_kind (booking_body b) ≡ 0
  spare_of-booking_body = booking_body-field 2 (lit< tt)

module _ (j : Job) (fit : Fit job_layout (job_values j)) where
  job_body-field : (k : ℕ) → k < 3 → field job_layout k (job_body j) ≡ get_or (job_values j) k 0
  job_body-field k l = field-packed job_layout (job_values j) k 11 refl fit l

  pub job_of-job_body : job_of (job_body j) ≡ j
  job_of-job_body = rw (job_body-field 0 (lit< tt), job_body-field 1 (lit< tt))

  pub spare_of-job_body : spare_of job_kind (job_body j) ≡ 0
  spare_of-job_body = job_body-field 2 (lit< tt)

-- ── the frames in their places ──

abbrev pub reading : (ℕ → Bool) → Contents → Progress
reading had c = record { stage = Open; had = had; contents = c }

pub read_from-head_frame : (h : Head) → SoundHead h → (k : ℕ) (rest : List ℕ) (at : ℕ)
    → read_from (suc k) (head_frame h ++ rest) at nothing_read
    ≡ read_from k rest (at + length (head_frame h))
    (reading none_had (record { head = h; booked = no_bookings; jobs = [] }))
unfolding frame_faults after
read_from-head_frame h s k rest at =
    let fit = Fit-head h s in
    let size = length-head_body h in
    let sound : first_fault (frame_faults Start 0 0 none_had at head_kind (head_body h)) ≡ Ok tt =
    rw (eq-eqb (length (head_body h)) 7 size, eq-eqb _ 0 (spare_of-head_body h fit))
    (ap (λ (x : Head). first_fault (head_faults x at)) (head_of-head_body h fit) ∙ sound-head h at s) in
    read_from-frame head_kind (head_body h) rest (lit< tt) (omega arith) k at nothing_read sound
    ∙ rw (head_of-head_body h fit)

pub read_from-booking_frame : (had : ℕ → Bool) (c : Contents) (b : Booking) → length c.jobs ≡ 0
    → b.bench < c.head.benches → b.bench < 64 → b.minutes < 2 ^ 20 → had b.bench ≡ false
    → (k : ℕ) (rest : List ℕ) (at : ℕ)
    → read_from (suc k) (booking_frame b ++ rest) at (reading had c)
    ≡ read_from k rest (at + length (booking_frame b)) (reading (had_with had b) (with_booking c b))
unfolding frame_faults after
read_from-booking_frame had c b none below inside fits free k rest at =
    let m : ℕ = c.head.benches in
    let fit = Fit-booking b inside fits in
    let size = length-booking_body b in
    let no-fault : booking_fault m b ≡ false =
    or-false (lt-leb m b.bench below) (lt-leb (2 ^ 20) b.minutes fits) in
    let sound : first_fault (frame_faults Open m (length c.jobs) had at booking_kind (booking_body b)) ≡ Ok tt =
    rw (none, eq-eqb (length (booking_body b)) 4 size, eq-eqb _ 0 (spare_of-booking_body b fit))
    (ap (λ (x : Booking). first_fault (booking_faults m had x at)) (booking_of-booking_body b fit)
    ∙ rw (no-fault, free)) in
    read_from-frame booking_kind (booking_body b) rest (lit< tt) (omega arith) k at (reading had c) sound
    ∙ ap (λ (x : Booking). read_from k rest (at + length (booking_frame b)) (reading (had_with had x) (with_booking c x)))
    (booking_of-booking_body b fit)

pub read_from-job_frame : (had : ℕ → Bool) (c : Contents) (j : Job) → SoundJob c.head.benches (length c.jobs) j
    → j.allowed < 2 ^ 64
    → (k : ℕ) (rest : List ℕ) (at : ℕ)
    → read_from (suc k) (job_frame j ++ rest) at (reading had c)
    ≡ read_from k rest (at + length (job_frame j)) (reading had (with_job c j))
unfolding frame_faults after
read_from-job_frame had c j s w k rest at =
    let m : ℕ = c.head.benches in
    let n : ℕ = length c.jobs in
    let fit = Fit-job m n j s w in
    let size = length-job_body j in
    let sound : first_fault (frame_faults Open m n had at job_kind (job_body j)) ≡ Ok tt =
    rw (eq-eqb (length (job_body j)) 11 size, eq-eqb _ 0 (spare_of-job_body j fit))
    (ap (λ (x : Job). first_fault (job_faults m n x at)) (job_of-job_body j fit) ∙ sound-job m n j at s) in
    read_from-frame job_kind (job_body j) rest (lit< tt) (omega arith) k at (reading had c) sound
    ∙ rw (job_of-job_body j fit)

pub read_from-end_frame : (had : ℕ → Bool) (c : Contents) (k : ℕ) (rest : List ℕ) (at : ℕ)
    → read_from (suc k) (end_frame ++ rest) at (reading had c)
    ≡ read_from k rest (at + length end_frame) (record { stage = Closed; had = had; contents = c })
unfolding frame_faults after bytes_of
read_from-end_frame had c k rest at = read_from-frame end_kind [] rest (lit< tt) (lit< tt) k at (reading had c) refl

-- By induction on the jobs: each job joins those read before it, so its number is how many these are.
pub read_from-job_frames : (had : ℕ → Bool) (c : Contents) (js : List Job)
    → ((i : ℕ) → i < length js → SoundJob c.head.benches (length c.jobs + i) (job_at js i))
    → ((i : ℕ) → i < length js → (job_at js i).allowed < 2 ^ 64)
    → (k : ℕ) (rest : List ℕ) (at : ℕ)
    → read_from (length js + k) (job_frames js ++ rest) at (reading had c)
    ≡ read_from k rest (at + length (job_frames js))
    (reading had (record { head = c.head; booked = c.booked; jobs = c.jobs ++ js }))
unfolding job_frames
read_from-job_frames had c [] s w k rest at = rw (zero-add k, add-zero at, append-nil c.jobs)
read_from-job_frames had c (j ∷ js) s w k rest at =
    let number : length (c.jobs ++ (j ∷ [])) ≡ suc (length c.jobs) =
    length-append c.jobs (j ∷ []) ∙ omega arith in
    rw (suc-add (length js) k, append_assoc (job_frame j) (job_frames js) rest)
    (read_from-job_frame had c j (rw add-zero at (s 0 (omega arith))) (w 0 (omega arith))
    (length js + k) (job_frames js ++ rest) at
    ∙ read_from-job_frames had (with_job c j) js
    (λ i l. rw (number, suc-add, ← add-suc) (s (suc i) (omega arith)))
    (λ i l. w (suc i) (omega arith))
    k rest (at + length (job_frame j))
    ∙ rw (add_assoc at, ← (length-append (job_frame j) (job_frames js)), append_assoc c.jobs)
    )

-- ── the bookings of a table ──

unfoldable pub booked_into : ℕ → List ℕ → List ℕ → List ℕ
booked_into i [] bs = bs
booked_into i (n ∷ ns) bs = cond (eqb n 0) (booked_into (suc i) ns bs) (booked_into (suc i) ns (set bs i n))

booked_into-length : (i : ℕ) (ns bs : List ℕ) → length (booked_into i ns bs) ≡ length bs
unfolding booked_into
booked_into-length i [] bs = refl
booked_into-length i (n ∷ ns) bs = elim (split (eqb n 0)) [
  | inl p ↦ rw p (booked_into-length (suc i) ns bs)
  | inr p ↦ rw p (booked_into-length (suc i) ns (set bs i n) ∙ length-set bs i n)
]

-- Entries before bench i stay.
booked_into-before : (i : ℕ) (ns bs : List ℕ) (v : ℕ) → v < i → get_or (booked_into i ns bs) v 0 ≡ get_or bs v 0
unfolding booked_into
booked_into-before i [] bs v l = refl
booked_into-before i (n ∷ ns) bs v l = elim (split (eqb n 0)) [
  | inl p ↦ rw p (booked_into-before (suc i) ns bs v (omega arith))
  | inr p ↦ rw p
      (booked_into-before (suc i) ns (set bs i n) v (omega arith)
      ∙ get_or-set_other bs i v n 0 (λ e. omega arith))
]

-- Where nothing was booked from bench i on, the entries from there on are those of ns.
booked_into-from : (i : ℕ) (ns bs : List ℕ) → ((v : ℕ) → i ≤ v → get_or bs v 0 ≡ 0)
    → (x : ℕ) → i + x < length bs → get_or (booked_into i ns bs) (i + x) 0 ≡ get_or ns x 0
unfolding booked_into
booked_into-from i [] bs free x l = free (i + x) (omega arith)
booked_into-from i (n ∷ ns) bs free zero l = elim (split (eqb n 0)) [
  | inl p ↦ rw (p, add-zero)
      (booked_into-before (suc i) ns bs i (omega arith) ∙ free i (omega arith) ∙ omega tests)
  | inr p ↦ rw (p, add-zero)
      (booked_into-before (suc i) ns (set bs i n) i (omega arith) ∙ get_or-set_same bs i n 0 (omega arith))
]
booked_into-from i (n ∷ ns) bs free (suc x) l = elim (split (eqb n 0)) [
  | inl p ↦ rw (p, add-suc, ← suc-add) (booked_into-from (suc i) ns bs (λ v h. free v (omega arith)) x (omega arith))
  | inr p ↦ rw (p, add-suc, ← suc-add)
      (booked_into-from (suc i) ns (set bs i n)
      (λ v h. get_or-set_other bs i v n 0 (λ e. omega arith) ∙ free v (omega arith)) x
      (rw (length-set bs i n) (omega arith)))
]

pub booked_into-every : (ns : List ℕ) → booked_into 0 ns no_bookings ≡ every_bench ns
booked_into-every ns =
    let size = booked_into-length 0 ns no_bookings in
    ext_get_or 0 (booked_into 0 ns no_bookings) (every_bench ns) (size ∙ sym (length-table 64 (booked_at ns)))
    (λ i l. let below : i < 64 = omega (arith, size) in
    ap (λ (v : ℕ). get_or (booked_into 0 ns no_bookings) v 0) (sym (zero-add i))
    ∙ booked_into-from 0 ns no_bookings (λ v h. no_bookings_lem v) i (omega arith)
    ∙ sym (get_or-table 64 (booked_at ns) i 0 below))

-- By induction on the table: a booking above 0 joins those read before it, and its bench had none before.
pub read_from-bookings : (had : ℕ → Bool) (c : Contents) (i : ℕ) (ns : List ℕ) → length c.jobs ≡ 0
    → c.head.benches ≤ 64
    → ((v : ℕ) → i ≤ v → had v ≡ false) → ((x : ℕ) → get_or ns x 0 < 2 ^ 20)
    → ((x : ℕ) → c.head.benches ≤ i + x → get_or ns x 0 ≡ 0)
    → (k : ℕ) (rest : List ℕ) (at : ℕ)
    → (after-had : ℕ → Bool)
    × (read_from (length (booked_from i ns) + k) (booking_frames (booked_from i ns) ++ rest) at (reading had c)
    ≡ read_from k rest (at + length (booking_frames (booked_from i ns)))
    (reading after-had (record { head = c.head; booked = booked_into i ns c.booked; jobs = c.jobs })))
unfolding booked_from booking_frames booked_into
read_from-bookings had c i [] none few free fits held k rest at = (had, rw (zero-add k, add-zero at))
read_from-bookings had c i (n ∷ ns) none few free fits held k rest at = elim (split (eqb n 0)) [
  | inl p ↦ rw p
      (read_from-bookings had c (suc i) ns none few (λ v l. free v (omega arith)) (λ x. fits (suc x))
      (λ x l. held (suc x) (omega arith)) k rest at)
  | inr p ↦
      let b : Booking = record { bench = i; minutes = n } in
      let below : i < c.head.benches = elim (lt-or-le i c.head.benches) [
        | inl l ↦ l
        | inr l ↦ absurd (let z : n ≡ 0 = held 0 (omega arith) in omega tests)
      ] in
      let next =
      read_from-bookings (had_with had b) (with_booking c b) (suc i) ns none few
      (λ v l. or-false (free v (omega arith)) (ne_eqb v i (λ e. omega arith))) (λ x. fits (suc x))
      (λ x l. held (suc x) (omega arith)) k rest (at + length (booking_frame b)) in
      rw (
        p,
        suc-add (length (booked_from (suc i) ns)) k,
        append_assoc (booking_frame b) (booking_frames (booked_from (suc i) ns)) rest,
      ) (
        next.0,
        read_from-booking_frame had c b none below (omega arith) (fits 0) (free i (omega arith))
            (length (booked_from (suc i) ns) + k) (booking_frames (booked_from (suc i) ns) ++ rest) at
            ∙ next.1
            ∙ rw (add_assoc at, ← (length-append (booking_frame b) (booking_frames (booked_from (suc i) ns)))),
      )
]

-- ── the whole sheet ──

sheet_bytes-parts : (c : Contents) → sheet_bytes c
    ≡ head_frame c.head ++ (booking_frames (bookings c.booked) ++ (job_frames c.jobs ++ (end_frame ++ [])))
sheet_bytes-parts c =
    let head = head_frame c.head in
    let booked = booking_frames (bookings c.booked) in
    append_assoc (head ++ booked) (job_frames c.jobs) end_frame
    ∙ append_assoc head booked (job_frames c.jobs ++ end_frame)
    ∙ ap (λ (l : List ℕ). head ++ (booked ++ (job_frames c.jobs ++ l))) (sym (append-nil end_frame))

-- The head frame is read first, then the frames of the bookings above 0, then the job frames, one for each job, then
-- the end frame. The bound on the frames is the number of bytes; by read_from-enough it may be taken larger, as a sum of
-- the frames of each kind.
pub write_read : (c : Contents) → writer_verdict c ≡ Ok tt
    → ((i : ℕ) → i < length c.jobs → (job_at c.jobs i).allowed < 2 ^ 64)
    → read_sheet (sheet_bytes c) ≡ accepted (as_read c)
unfolding read_sheet
write_read c e w =
    let s = writer_verdict-sound c e in
    let bytes = sheet_bytes c in
    let b = length (bookings c.booked) in
    let m = c.head.benches in
    let few = few-bookings m c.booked (sound-bookings m c.booked s.bookings) in
    let n = length c.jobs in
    let k = length bytes in
    let short : ltb 65536 k ≡ false =
    le-ltb 65536 k (omega (arith, length-sheet_bytes c, s.head.at_most_64_benches, s.at_most_512_jobs)) in
    let opened : Contents = record { head = c.head; booked = no_bookings; jobs = [] } in
    let booked = read_from-bookings none_had opened 0 c.booked refl s.head.at_most_64_benches (λ v l. refl)
    s.bookings.booked_fit (λ x l. s.bookings.none_past_head x (omega arith)) (n + suc k) _ _ in
    rw (short, read_sheet)
    (read_from-enough k (suc (b + (n + suc k))) bytes 0 nothing_read (omega arith) (omega arith)
    ∙ ap (λ (l : List ℕ). read_from (suc (b + (n + suc k))) l 0 nothing_read) (sheet_bytes-parts c)
    ∙ read_from-head_frame c.head s.head (b + (n + suc k)) _ 0
    ∙ booked.1
    ∙ read_from-job_frames booked.0
    (record { head = c.head; booked = booked_into 0 c.booked no_bookings; jobs = [] }) c.jobs (λ i l. rw zero-add (s.jobs i l)) w (suc k) _ _
    ∙ read_from-end_frame booked.0 _ k [] _
    ∙ read_from-over k [] _ _ refl
    ∙ rw (s.no_heavy_hyper_edge, booked_into-every c.booked)
    )

pub as_read-same : (c : Contents) → length c.booked ≡ 64 → as_read c ≡ c
as_read-same c e =
    ap (λ (bs : List ℕ). record { head = c.head; booked = bs; jobs = c.jobs })
    (ap (λ (n : ℕ). table n (booked_at c.booked)) (sym e) ∙ table-get_or c.booked 0)

pub write_read_same : (c : Contents) → writer_verdict c ≡ Ok tt → length c.booked ≡ 64
    → ((i : ℕ) → i < length c.jobs → (job_at c.jobs i).allowed < 2 ^ 64) → read_sheet (sheet_bytes c) ≡ accepted c
write_read_same c e size w = write_read c e w ∙ ap accepted (as_read-same c size)

pub write_read_computed : (c : Contents) → writer_verdict c ≡ Ok tt → length c.booked ≡ 64
    → all (length c.jobs) (λ i. ltb (job_at c.jobs i).allowed (2 ^ 64)) ≡ true
    → read_sheet (sheet_bytes c) ≡ accepted c
write_read_computed c e size narrow =
    write_read_same c e size
    (λ i l. ltb-true (job_at c.jobs i).allowed (2 ^ 64)
    (all_elim (length c.jobs) (λ i. ltb (job_at c.jobs i).allowed (2 ^ 64)) narrow i l))

pub sheet_bytes-injective : (c e : Contents)
    → writer_verdict c ≡ Ok tt → ((i : ℕ) → i < length c.jobs → (job_at c.jobs i).allowed < 2 ^ 64)
    → writer_verdict e ≡ Ok tt → ((i : ℕ) → i < length e.jobs → (job_at e.jobs i).allowed < 2 ^ 64)
    → sheet_bytes c ≡ sheet_bytes e → as_read c ≡ as_read e
sheet_bytes-injective c e a v b w same_bytes =
    let same : accepted (as_read c) ≡ accepted (as_read e) =
    sym (write_read c a v) ∙ ap read_sheet same_bytes ∙ write_read e b w in
    cc
