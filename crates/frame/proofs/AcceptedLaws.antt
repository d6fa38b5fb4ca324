-- What an accepted sheet holds is sound: its contents pass the tests 7 to 12 and 14.
--     SoundProgress g         what has been read so far is sound
--     no_bookings_lem, unbooked_sound  64 benches with nothing booked; they are sound for any head
--     set-sound               a booking that 14 does not hold of keeps bookings sound
--     content_accepted        a sound frame's last tests are those of what it holds
--     sound-after             a sound frame keeps it so
--     reached_sound           so it is wherever reading comes to
--     accepted_sound          an accepted sheet's contents are sound
--     accepted_booked         and have one booked number for each of 64 benches
use Prim.Native.Nat.{ℕ, ◌+◌, ◌^◌, ◌≤◌, ◌<◌}
use mathlib.Core.Path.{◌≡◌, refl, sym, ap, subst, ◌∙◌}
use mathlib.Core.Bool.{true, false, not}
use mathlib.Core.Logic.{inl, inr, ⊎_elim}
use mathlib.Core.List.{List, [], ◌∷◌, ◌++◌}
use native.Mathlib.Omega.{arith}
use lib.ListN.{length, set, length-append, length-set, get_or-append}
use lib.Seq.{get_or-append_seam, get_or-set_same, get_or-set_other}
use lib.Dec.{eqb}
use Rattle.bools.proofs.BoolLaws.{clash, split, or-false_left, or-false_right, tests}
use Rattle.bools.proofs.OrderLaws.{lt-or-le, eq-or-ne}
use Rattle.sums.proofs.TableLaws.{get_or-same}
use Rattle.bits.proofs.BitsLaws.{bits-lt}
use Rattle.fields.specs.declared.sheet.Booking.{Booking}
use Rattle.fields.specs.declared.sheet.Job.{Job}
use Rattle.fields.specs.Contents.{Contents, booked_at, no_bookings}
use Rattle.judging.specs.declared.judge.Stage.{Stage}
use Rattle.judging.specs.declared.judge.Stage.TheVariants.{Start, Open, Closed}
use Rattle.std.specs.Prelude.{Ok}
use Rattle.fields.specs.Format.{head_kind, job_kind, booking_kind, kind_of, body_of, body_length, spare_of}
use Rattle.fields.specs.Format.{head_of, job_of, booking_of}
use Rattle.fields.specs.Tests.{first_fault, booking_fault, job_at, no_job}
use Rattle.frame.specs.Sound.{SoundHead, SoundBookings, SoundJob, SoundSheet}
use Rattle.judging.specs.FrameTests.{known_kind, out_of_stage, misplaced, content_faults, frame_faults}
use Rattle.frame.specs.Reading.{Progress, accepted, nothing_read, faults_at, after, read_sheet}
use Rattle.frame.specs.Frames.{Reached, start, past_foreign, past_sound}
use Rattle.bookings.proofs.BookingLaws.{booking_fault-none}
use Rattle.frame.proofs.WriterLaws.{cond-accepted, head_sound, job_sound}
use Rattle.frame.proofs.FirstFault.{none_holds_passes, hyper_edge_none, read_accepted}

pub record SoundProgress (g : Progress) : Type 0 where
  pub nothing_before_head : g.stage ≡ Start → (g.contents.booked ≡ no_bookings) × (g.contents.jobs ≡ [])
  pub head_sound_after : (g.stage ≡ Start → ⊥) → SoundHead g.contents.head
  pub booked_64 : length g.contents.booked ≡ 64
  pub bookings_sound : SoundBookings g.contents.head.benches g.contents.booked
  pub booked_had : (b : ℕ) → g.had b ≡ false → booked_at g.contents.booked b ≡ 0
  pub jobs_sound : (i : ℕ) → i < length g.contents.jobs
      → SoundJob g.contents.head.benches i (job_at g.contents.jobs i)
  pub at_most_512 : length g.contents.jobs ≤ 512

-- Where no frame is misplaced: a head comes at the start, and anything else when the head has come.
not_start : (s : Stage) (k : ℕ) → out_of_stage s k ≡ false → eqb k head_kind ≡ false → s ≡ Start → ⊥
not_start s k m e q = let z : true ≡ false = cc in clash {b = true} refl z

at_start : (s : Stage) (k : ℕ) → out_of_stage s k ≡ false → eqb k head_kind ≡ true → s ≡ Start
at_start Start k m e = refl
at_start Open k m e = clash e m
at_start Closed k m e = clash refl m

open-not-start : Open ≡ Start → ⊥
open-not-start q = let z : ◌≡◌ {A = ℕ} 0 1 = cc in omega arith

closed-not-start : Closed ≡ Start → ⊥
closed-not-start q = let z : ◌≡◌ {A = ℕ} 0 1 = cc in omega arith

pub no_bookings_lem : (b : ℕ) → booked_at no_bookings b ≡ 0
no_bookings_lem b = get_or-same 64 0 b

pub unbooked_sound : (m : ℕ) → SoundBookings m no_bookings
unbooked_sound m = record { booked_fit = λ b. rw (no_bookings_lem b) (omega arith); none_past_head = λ b l. no_bookings_lem b }

pub set-sound : (m : ℕ) (bs : List ℕ) (k : Booking) → k.bench < length bs → k.bench < m → k.minutes < 2 ^ 20
    → SoundBookings m bs → SoundBookings m (set bs k.bench k.minutes)
set-sound m bs k inside below fits s =
    record {
      booked_fit = λ b. elim (eq-or-ne b k.bench) [
        | inl e ↦ rw (e, get_or-set_same bs k.bench k.minutes 0 inside) fits
        | inr n ↦ rw (get_or-set_other bs k.bench b k.minutes 0 n) (s.booked_fit b)
      ];
      none_past_head = λ b l.
          get_or-set_other bs k.bench b k.minutes 0 (λ e. omega arith) ∙ s.none_past_head b l;
    }

module _ (g : Progress) (at : ℕ) (f : List ℕ) (e : first_fault (faults_at g at f) ≡ Ok tt) where
  abbrev jobs_read : ℕ
  jobs_read = length g.contents.jobs

  in_place : out_of_stage g.stage (kind_of f) ≡ false
  unfolding frame_faults
  in_place =
      let kind-known = cond-accepted (not (known_kind (kind_of f))) _ _ e in
      or-false_left (out_of_stage g.stage (kind_of f)) _
      (cond-accepted (misplaced g.stage jobs_read (kind_of f)) _ _ kind-known.1).0

  pub content_accepted :
      first_fault (content_faults g.contents.head.benches jobs_read g.had at (kind_of f) (body_of f)) ≡ Ok tt
  unfolding frame_faults
  content_accepted =
      let kind-known = cond-accepted (not (known_kind (kind_of f))) _ _ e in
      let placed = cond-accepted (misplaced g.stage jobs_read (kind_of f)) _ _ kind-known.1 in
      let right-length = cond-accepted (not (eqb (length (body_of f)) (body_length (kind_of f)))) _ _ placed.1 in
      (cond-accepted (not (eqb (spare_of (kind_of f) (body_of f)) 0)) _ _ right-length.1).1

  module _ (ok : SoundProgress g) where
    after-head : eqb (kind_of f) head_kind ≡ true → SoundProgress (after g (kind_of f) (body_of f))
    unfolding after
    after-head k =
        let nothing = ok.nothing_before_head (at_start g.stage (kind_of f) in_place k) in
        let none : g.contents.jobs ≡ [] = nothing.1 in
        let h : SoundHead (head_of (body_of f)) = head_sound (head_of (body_of f)) at (rw k at content_accepted) in
        rw k
        (record {
          nothing_before_head = λ q. absurd (open-not-start q);
          head_sound_after = λ q. h;
          booked_64 = ok.booked_64;
          bookings_sound =
              subst (λ (bs : List ℕ). SoundBookings (head_of (body_of f)).benches bs) (sym nothing.0)
              (unbooked_sound (head_of (body_of f)).benches);
          booked_had = ok.booked_had;
          jobs_sound = λ i lt. absurd (let z : i < 0 = subst (λ (js : List Job). i < length js) none lt in omega arith);
          at_most_512 = ok.at_most_512;
        })

    module _ (k : eqb (kind_of f) head_kind ≡ false) where
      after-job : eqb (kind_of f) job_kind ≡ true → SoundProgress (after g (kind_of f) (body_of f))
      unfolding after
      after-job l =
          let js = g.contents.jobs in
          let j = job_of (body_of f) in
          let m = g.contents.head.benches in
          let sound : SoundJob m (length js) j = job_sound m (length js) j at (rw (k, l) at content_accepted) in
          let more : length (js ++ (j ∷ [])) ≡ length js + 1 = length-append js (j ∷ []) in
          rw (k, l)
          (record {
            nothing_before_head = λ q. absurd (not_start g.stage (kind_of f) in_place k q);
            head_sound_after = ok.head_sound_after;
            booked_64 = ok.booked_64;
            bookings_sound = ok.bookings_sound;
            booked_had = ok.booked_had;
            jobs_sound = λ i lt.
                ⊎_elim
                (λ before. rw (get_or-append js (j ∷ []) no_job i before) (ok.jobs_sound i before))
                (λ behind. let last : i ≡ length js = omega arith in rw (last, get_or-append_seam js j [] no_job) sound)
                (lt-or-le i (length js));
            at_most_512 = omega (arith, more, sound);
          })

      module _ (l : eqb (kind_of f) job_kind ≡ false) where
        after-booking : eqb (kind_of f) booking_kind ≡ true → SoundProgress (after g (kind_of f) (body_of f))
        unfolding after
        after-booking q =
            let bs = g.contents.booked in
            let b = booking_of (body_of f) in
            let m = g.contents.head.benches in
            let bench-below : b.bench < 64 = bits-lt (body_of f) 0 6 in
            let passed = (cond-accepted (booking_fault m b) _ _ (rw (k, l, q) at content_accepted)).0 in
            let sound = booking_fault-none m b passed in
            let inside : b.bench < length bs = omega (arith, ok.booked_64) in
            rw (k, l, q)
            (record {
              nothing_before_head = λ s. absurd (not_start g.stage (kind_of f) in_place k s);
              head_sound_after = ok.head_sound_after;
              booked_64 = length-set bs b.bench b.minutes ∙ ok.booked_64;
              bookings_sound = set-sound m bs b inside sound.0 sound.1 ok.bookings_sound;
              booked_had = λ v h.
                  let other : eqb v b.bench ≡ false = or-false_right (g.had v) _ h in
                  get_or-set_other bs b.bench v b.minutes 0 (λ s. omega tests)
                  ∙ ok.booked_had v (or-false_left (g.had v) (eqb v b.bench) h);
              jobs_sound = ok.jobs_sound;
              at_most_512 = ok.at_most_512;
            })

        after-end : eqb (kind_of f) booking_kind ≡ false → SoundProgress (after g (kind_of f) (body_of f))
        unfolding after
        after-end q =
            rw (k, l, q)
            (record {
              nothing_before_head = λ s. absurd (closed-not-start s);
              head_sound_after = λ s. ok.head_sound_after (not_start g.stage (kind_of f) in_place k);
              booked_64 = ok.booked_64;
              bookings_sound = ok.bookings_sound;
              booked_had = ok.booked_had;
              jobs_sound = ok.jobs_sound;
              at_most_512 = ok.at_most_512;
            })

    pub sound-after : SoundProgress (after g (kind_of f) (body_of f))
    sound-after = elim (split (eqb (kind_of f) head_kind)) [
      | inl k ↦ after-head k
      | inr k ↦ elim (split (eqb (kind_of f) job_kind)) [
        | inl l ↦ after-job k l
        | inr l ↦ elim (split (eqb (kind_of f) booking_kind)) [ inl q ↦ after-booking k l q | inr q ↦ after-end k l q ]
      ]
    ]

sound_start : SoundProgress nothing_read
sound_start =
    record {
      nothing_before_head = λ q. (refl, refl);
      head_sound_after = λ q. absurd (q refl);
      booked_64 = refl;
      bookings_sound = unbooked_sound 0;
      booked_had = λ b h. no_bookings_lem b;
      jobs_sound = λ i lt. absurd (omega arith);
      at_most_512 = omega arith;
    }

pub reached_sound : {s : List ℕ} {at : ℕ} {rest : List ℕ} {g : Progress} → Reached s at rest g → SoundProgress g
reached_sound start = sound_start
reached_sound (past_foreign r f) = reached_sound r
reached_sound (past_sound {at = at} {f = f} {g = g} r w v n) = sound-after g at f (none_holds_passes (faults_at g at f) n) (reached_sound r)

pub accepted_sound : (s : List ℕ) (c : Contents) → read_sheet s ≡ accepted c → SoundSheet c
accepted_sound s c e =
    let found = (read_accepted s c e).1 in
    let ok = reached_sound found.reached in
    let opened : found.progress.stage ≡ Start → ⊥ = λ q. closed-not-start (sym found.closed ∙ q) in
    record {
      head = subst (λ (x : Contents). SoundHead x.head) found.contents_read (ok.head_sound_after opened);
      bookings =
          subst (λ (x : Contents). SoundBookings x.head.benches x.booked) found.contents_read
          ok.bookings_sound;
      jobs = λ i lt.
          subst (λ (x : Contents). SoundJob x.head.benches i (job_at x.jobs i)) found.contents_read
          (ok.jobs_sound i (subst (λ (x : Contents). i < length x.jobs) (sym found.contents_read) lt));
      at_most_512_jobs = subst (λ (x : Contents). length x.jobs ≤ 512) found.contents_read ok.at_most_512;
      no_heavy_hyper_edge = hyper_edge_none c.head c.jobs found.none_heavy;
    }

pub accepted_booked : (s : List ℕ) (c : Contents) → read_sheet s ≡ accepted c → length c.booked ≡ 64
accepted_booked s c e =
    let found = (read_accepted s c e).1 in
    sym (ap (λ (x : Contents). length x.booked) found.contents_read) ∙ (reached_sound found.reached).booked_64
