-- "A law says that a booking frame of 0 minutes, in a booking's place and for a bench of the head that has no other
-- booking frame, changes nothing that is read (places of faults in bytes move along)." (request S-1)
-- Of a place that reading comes to:
--     reached_split           the sheet is the bytes before it and those left
--     reached_behind          it is reached too with other bytes left
-- Of the benches that had a booking frame:
--     with_had had g          the progress g with other such benches
--     AlikeBut b had had'     both say the same of every bench but b
--     read_on-with_had        where no booking of b comes, reading on does not ask about b
--     not_had                 where none came, bench b had none
-- The law:
--     zero_booking b          the booking of 0 minutes for bench b
--     read-zero-booking       the sentence itself: byte places from the added frame on move by its 7 bytes
--     read-zero-accepted      with the frame a sheet is accepted exactly where it is without, with the same contents
use Prim.Native.Nat.{ℕ, suc, ◌+◌, ◌≤◌, ◌<◌}
use mathlib.Core.Path.{◌≡◌, refl, sym, ap, ◌∙◌, subst}
use mathlib.Core.Bool.{Bool, false, ◌||◌}
use mathlib.Core.Logic.{◌≢◌, inl, inr, ◌↔◌}
use mathlib.Core.List.{List, [], ◌++◌, append_assoc}
use native.Mathlib.Omega.{arith}
use lib.ListN.{length, set, take, length-append}
use lib.Seq.{take_at, set-get_or}
use lib.Dec.{eqb, lit<}
use borrow.Author.Tests.{eqb-true, ne_eqb, le-leb}
use Rattle.bools.proofs.BoolLaws.{split, or-false, or_unit}
use Rattle.bools.proofs.OrderLaws.{eq-or-ne}
use Rattle.fields.specs.declared.sheet.Booking.{Booking}
use Rattle.fields.specs.Contents.{Contents}
use Rattle.judging.specs.declared.judge.Stage.{Stage}
use Rattle.judging.specs.declared.judge.Stage.TheVariants.{Start}
use Rattle.fields.specs.declared.fault.Fault.{Fault}
use Rattle.std.specs.Prelude.{Ok, Err}
use Rattle.fields.specs.Format.{ours, head_kind, job_kind, booking_kind, version_of, kind_of, body_of}
use Rattle.fields.specs.Format.{booking_of, booking_frame}
use Rattle.fields.specs.Tests.{first_fault}
use Rattle.fields.proofs.FormatLaws.{length-booking_frame}
use Rattle.judging.specs.FrameTests.{frame_faults}
use Rattle.frame.specs.Reading.{Progress, accepted, faults_at, with_booking, had_with}
use Rattle.frame.specs.Reading.{after, read_from, read_sheet}
use Rattle.frame.specs.Frames.{WholeFrame, read_on, Reached, start, past_foreign, past_sound}
use Rattle.frame.specs.Frames.{from_on, moved_read, BookingPlace, NoBookingOf}
use Rattle.frame.proofs.ReadLaws.{read_from-over, read_from-enough}
use Rattle.frame.proofs.WholeFrames.{frames_induction, verdict_cases, read_on-past_foreign}
use Rattle.frame.proofs.WholeFrames.{read_on-past_sound, read_on-in_frame, read_on-cut, read_sheet-within}
use Rattle.frame.proofs.FirstFault.{none_holds, reached_read}
use Rattle.frame.proofs.ForeignFrames.{read_from-moved, moved_read-accepted}
use Rattle.frame.proofs.AcceptedLaws.{SoundProgress, reached_sound}
use Rattle.frame.proofs.RoundTrip.{reading, read_from-booking_frame}

-- ── what stands before a place that reading comes to ──

-- The bytes before the place, and that the place is reached with any bytes behind them.
record Front (s : List ℕ) (at : ℕ) (rest : List ℕ) (g : Progress) : Type 0 where
  front : List ℕ
  parts : s ≡ front ++ rest
  size : length front ≡ at
  again : (behind : List ℕ) → Reached (front ++ behind) at behind g

module _ {s : List ℕ} where
  front_of : {at : ℕ} {rest : List ℕ} {g : Progress} → Reached s at rest g → Front s at rest g
  front_of start = record { front = []; parts = refl; size = refl; again = λ behind. start }
  front_of (past_foreign {at = at} {f = f} {rest = rest} {g = g} r w) =
      let before = front_of r in
      let a = before.front in
      record {
        front = a ++ f;
        parts = before.parts ∙ sym (append_assoc a f rest);
        size = omega (arith, length-append a f, before.size);
        again = λ behind.
            subst (λ (t : List ℕ). Reached t (at + length f) behind g) (sym (append_assoc a f behind))
            (past_foreign (before.again (f ++ behind)) w);
      }
  front_of (past_sound {at = at} {f = f} {rest = rest} {g = g} r w v n) =
      let before = front_of r in
      let a = before.front in
      record {
        front = a ++ f;
        parts = before.parts ∙ sym (append_assoc a f rest);
        size = omega (arith, length-append a f, before.size);
        again = λ behind.
            subst (λ (t : List ℕ). Reached t (at + length f) behind (after g (kind_of f) (body_of f)))
            (sym (append_assoc a f behind))
            (past_sound (before.again (f ++ behind)) w v n);
      }

  module _ {at : ℕ} {rest : List ℕ} {g : Progress} (r : Reached s at rest g) where
    front-taken : take at s ≡ (front_of r).front
    front-taken =
        let before = front_of r in
        ap (take at) before.parts ∙ take_at before.front rest at before.size

    pub reached_split : s ≡ take at s ++ rest
    reached_split = (front_of r).parts ∙ ap (λ (a : List ℕ). a ++ rest) (sym front-taken)

    pub reached_behind : (behind : List ℕ) → Reached (take at s ++ behind) at behind g
    reached_behind behind =
        subst (λ (a : List ℕ). Reached (a ++ behind) at behind g) (sym front-taken) ((front_of r).again behind)

-- ── the benches that had a booking frame ──

abbrev pub with_had : (ℕ → Bool) → Progress → Progress
with_had had g = record { stage = g.stage; had = had; contents = g.contents }

-- They say the same of every bench but b.
abbrev pub AlikeBut : ℕ → (ℕ → Bool) → (ℕ → Bool) → Type 0
AlikeBut b had had' = (v : ℕ) → v ≢ b → had v ≡ had' v

module _ (b : ℕ) (g : Progress) (had : ℕ → Bool) (alike : AlikeBut b had g.had) where
  -- The progress after a frame, and what it says of the benches.
  module _ (kind : ℕ) (body : List ℕ) where
    after-with_had : (had' : ℕ → Bool)
        × (after (with_had had g) kind body ≡ with_had had' (after g kind body))
        × AlikeBut b had' (after g kind body).had
    unfolding after
    after-with_had = elim (split (eqb kind head_kind)) [
      | inl k ↦ rw k (had, refl, alike)
      | inr k ↦ elim (split (eqb kind job_kind)) [
        | inl l ↦ rw (k, l) (had, refl, alike)
        | inr l ↦ elim (split (eqb kind booking_kind)) [
          | inl q ↦ rw (k, l, q) (
            had_with had (booking_of body),
            refl,
            λ v n. ap (λ (x : Bool). x || eqb v (booking_of body).bench) (alike v n),
          )
          | inr q ↦ rw (k, l, q) (had, refl, alike)
        ]
      ]
    ]

    faults-with_had : (at : ℕ) → (kind ≡ booking_kind → (booking_of body).bench ≢ b)
        → frame_faults g.stage g.contents.head.benches (length g.contents.jobs) had at kind body
        ≡ frame_faults g.stage g.contents.head.benches (length g.contents.jobs) g.had at kind body
    unfolding frame_faults
    faults-with_had at other = elim (split (eqb kind booking_kind)) [
      | inl q ↦ rw (alike (booking_of body).bench (other (eqb-true kind booking_kind q)))
      | inr q ↦ rw q
    ]

module _ {s : List ℕ} (b : ℕ) (none : NoBookingOf b s) where
  -- At a frame reading asks only whether the bench of that booking had one before, and no booking is one of bench b. So
  -- it finds the same fault, or goes on with progress that is again alike but for b.
  module _ (f rest : List ℕ) (w : WholeFrame f)
      (on : (at : ℕ) (g : Progress) (had : ℕ → Bool) → Reached s at rest g → AlikeBut b had g.had
      → read_on rest at (with_had had g) ≡ read_on rest at g)
      (at : ℕ) (g : Progress) (had : ℕ → Bool) (r : Reached s at (f ++ rest) g) (alike : AlikeBut b had g.had) where
    frame_foreign : version_of f ≢ ours → read_on (f ++ rest) at (with_had had g) ≡ read_on (f ++ rest) at g
    frame_foreign v =
        read_on-past_foreign f rest w at (with_had had g) v
        ∙ on (at + length f) g had (past_foreign r (record { whole = w; version = v })) alike
        ∙ sym (read_on-past_foreign f rest w at g v)

    module _ (v : version_of f ≡ ours) where
      frame_faults_lem : faults_at (with_had had g) at f ≡ faults_at g at f
      frame_faults_lem = faults-with_had b g had alike (kind_of f) (body_of f) at (λ k. none at f rest g r w v k)

      frame_fault : (x : Fault) → first_fault (faults_at g at f) ≡ Err x
          → read_on (f ++ rest) at (with_had had g) ≡ read_on (f ++ rest) at g
      frame_fault x e =
          read_on-in_frame f rest w at (with_had had g) v x (ap first_fault frame_faults_lem ∙ e)
          ∙ sym (read_on-in_frame f rest w at g v x e)

      frame_sound : first_fault (faults_at g at f) ≡ Ok tt
          → read_on (f ++ rest) at (with_had had g) ≡ read_on (f ++ rest) at g
      frame_sound e =
          let next = after-with_had b g had alike (kind_of f) (body_of f) in
          let there = past_sound r w v (none_holds (faults_at g at f) e) in
          read_on-past_sound f rest w at (with_had had g) v (ap first_fault frame_faults_lem ∙ e)
          ∙ ap (read_on rest (at + length f)) next.1
          ∙ on (at + length f) (after g (kind_of f) (body_of f)) next.0 there next.2
          ∙ sym (read_on-past_sound f rest w at g v e)

    frame-with_had : read_on (f ++ rest) at (with_had had g) ≡ read_on (f ++ rest) at g
    frame-with_had = elim (eq-or-ne (version_of f) ours) [
      | inr v ↦ frame_foreign v
      | inl v ↦ elim (verdict_cases (first_fault (faults_at g at f))) [
        | inl e ↦ frame_sound v e
        | inr e ↦ frame_fault v e.0 e.1
      ]
    ]

  pub read_on-with_had : (rest : List ℕ) (at : ℕ) (g : Progress) (had : ℕ → Bool) → Reached s at rest g
      → AlikeBut b had g.had → read_on rest at (with_had had g) ≡ read_on rest at g
  read_on-with_had =
      frames_induction
      (λ (rest : List ℕ). (at : ℕ) (g : Progress) (had : ℕ → Bool) → Reached s at rest g → AlikeBut b had g.had
      → read_on rest at (with_had had g) ≡ read_on rest at g)
      (λ at g had r alike. read_from-over 0 [] at (with_had had g) refl ∙ sym (read_from-over 0 [] at g refl))
      (λ rest some inside at g had r alike.
      read_on-cut rest at (with_had had g) some inside ∙ sym (read_on-cut rest at g some inside))
      frame-with_had

  had-after : (g : Progress) (kind : ℕ) (body : List ℕ) → (kind ≡ booking_kind → (booking_of body).bench ≢ b)
      → g.had b ≡ false → (after g kind body).had b ≡ false
  unfolding after
  had-after g kind body other e = elim (split (eqb kind head_kind)) [
    | inl k ↦ rw k e
    | inr k ↦ elim (split (eqb kind job_kind)) [
      | inl l ↦ rw (k, l) e
      | inr l ↦ elim (split (eqb kind booking_kind)) [
        | inl q ↦ rw (k, l, q)
            (or-false e (ne_eqb b (booking_of body).bench (λ same. other (eqb-true kind booking_kind q) (sym same))))
        | inr q ↦ rw (k, l, q) e
      ]
    ]
  ]

  pub not_had : {at : ℕ} {rest : List ℕ} {g : Progress} → Reached s at rest g → g.had b ≡ false
  not_had start = refl
  not_had (past_foreign r w) = not_had r
  not_had (past_sound {at = at} {f = f} {rest = rest} {g = g} r w v n) =
      had-after g (kind_of f) (body_of f) (λ k. none at f rest g r w v k) (not_had r)

-- ── a booking of 0 minutes ──

abbrev pub zero_booking : ℕ → Booking
zero_booking b = record { bench = b; minutes = 0 }

module _ (s : List ℕ) (b at : ℕ) (rest : List ℕ) (g : Progress) (place : BookingPlace s b at rest g)
    (none : NoBookingOf b s) where
  so_far : SoundProgress g
  so_far = reached_sound place.reached

  unbooked : g.had b ≡ false
  unbooked = not_had b none place.reached

  below_64 : b < 64
  below_64 =
      let head-come : g.stage ≡ Start → ⊥ = λ e. let z : ◌≡◌ {A = ℕ} 0 1 = cc place.stage_is in omega arith in
      omega (arith, place.bench_of_head, (so_far.head_sound_after head-come).at_most_64_benches)

  opened : g ≡ reading g.had g.contents
  opened = ap (λ (stage : Stage). record { stage = stage; had = g.had; contents = g.contents }) place.stage_is

  -- Bench b had no booking frame, so its entry is 0.
  same_contents : with_booking g.contents (zero_booking b) ≡ g.contents
  same_contents =
      let bs = g.contents.booked in
      ap (λ (l : List ℕ). record { head = g.contents.head; booked = l; jobs = g.contents.jobs })
      (ap (set bs b) (sym (so_far.booked_had b unbooked)) ∙ set-get_or bs b 0)

  abbrev had_zero : ℕ → Bool
  had_zero = had_with g.had (zero_booking b)

  past-zero : read_on (booking_frame (zero_booking b) ++ rest) at g ≡ read_on rest (at + 7) (with_had had_zero g)
  past-zero =
      let t : List ℕ = booking_frame (zero_booking b) ++ rest in
      let k : ℕ = length t in
      read_from-enough k (suc k) t at g (omega arith) (omega arith)
      ∙ ap (read_from (suc k) t at) opened
      ∙ read_from-booking_frame g.had g.contents (zero_booking b) place.no_job place.bench_of_head below_64
      (lit< tt) unbooked k rest at
      ∙ ap (λ (n : ℕ). read_from k rest (at + n) (reading had_zero (with_booking g.contents (zero_booking b))))
      (length-booking_frame (zero_booking b))
      ∙ ap (λ (c : Contents). read_from k rest (at + 7) (reading had_zero c)) same_contents
      ∙ ap (λ (x : Stage). read_from k rest (at + 7) (record { stage = x; had = had_zero; contents = g.contents }))
      (sym place.stage_is)
      ∙ read_from-enough k (length rest) rest (at + 7) (with_had had_zero g)
      (omega (arith, length-append (booking_frame (zero_booking b)) rest)) (omega arith)

  had_alike : AlikeBut b had_zero g.had
  had_alike v n = or_unit (g.had v) (ne_eqb v b n)

  zero-length : length (take at s ++ (booking_frame (zero_booking b) ++ rest)) ≡ length s + 7
  zero-length =
      let frame = booking_frame (zero_booking b) in
      omega (
        arith,
        ap length (reached_split place.reached),
        length-append (take at s) rest,
        length-append (take at s) (frame ++ rest),
        length-append frame rest,
        length-booking_frame (zero_booking b),
      )

  -- Up to byte at both sheets are read alike. The frame is passed with the same contents, and what follows it is read
  -- as before, each byte place moved by the frame's 7 bytes.
  zero-read : length s + 7 ≤ 65536
      → read_sheet (take at s ++ (booking_frame (zero_booking b) ++ rest)) ≡ moved_read at 7 (read_sheet s)
  zero-read h =
      read_sheet-within (take at s ++ (booking_frame (zero_booking b) ++ rest)) (omega (arith, zero-length))
      ∙ reached_read (reached_behind place.reached (booking_frame (zero_booking b) ++ rest))
      ∙ past-zero
      ∙ read_from-moved (from_on at 7) (length rest) rest at (at + 7) (with_had had_zero g)
      (λ x. rw (le-leb at (at + x) (omega arith)) (omega arith))
      ∙ ap (moved_read at 7)
      (read_on-with_had b none rest at g had_zero place.reached had_alike
      ∙ sym (reached_read place.reached) ∙ sym (read_sheet-within s (omega arith)))

pub read-zero-booking : (s : List ℕ) (b at : ℕ) (rest : List ℕ) (g : Progress) → BookingPlace s b at rest g
    → NoBookingOf b s → length s + 7 ≤ 65536
    → read_sheet (take at s ++ (booking_frame (record { bench = b; minutes = 0 }) ++ rest)) ≡ moved_read at 7 (read_sheet s)
read-zero-booking = zero-read

pub read-zero-accepted : (s : List ℕ) (b at : ℕ) (rest : List ℕ) (g : Progress) → BookingPlace s b at rest g
    → NoBookingOf b s → length s + 7 ≤ 65536 → (c : Contents)
    → (read_sheet (take at s ++ (booking_frame (record { bench = b; minutes = 0 }) ++ rest)) ≡ accepted c)
    ↔ (read_sheet s ≡ accepted c)
read-zero-accepted s b at rest g place none h c =
    rw (read-zero-booking s b at rest g place none h) (moved_read-accepted (from_on at 7) (read_sheet s) c)
