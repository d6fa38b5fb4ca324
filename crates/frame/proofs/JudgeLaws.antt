-- One frame: how reading goes on behind it, and what the frame judge's answer says of it.
--     read_on-foreign, read_on-fault, read_on-next  reading past one frame
--     judgement                                     what the judge is asked of the frame at the front of rest
--     is_head, is_job, is_booking, content          the tests of its kind, and what it holds by them
--     content-not_foreign                           it holds no foreign frame
--     frame_of-fault, frame_of-head, frame_of-booking, frame_of-job, frame_of-end  what its answer says of the frame's tests
use Prim.Native.Nat.{ℕ, suc, ◌+◌, ◌-◌, ◌<◌}
use mathlib.Core.Path.{◌≡◌, refl, sym, ap, subst, ◌∙◌}
use mathlib.Core.Bool.{Bool, true, false, cond}
use mathlib.Core.List.{List}
use native.Mathlib.Omega.{arith}
use lib.ListN.{length, drop, length-drop}
use lib.Dec.{eqb}
use borrow.Author.Tests.{ne_eqb}
use Rattle.fields.specs.declared.sheet.Booking.{Booking}
use Rattle.fields.specs.declared.sheet.Head.{Head}
use Rattle.fields.specs.declared.sheet.Job.{Job}
use Rattle.judging.specs.declared.judge.Frame.{Frame}
use Rattle.judging.specs.declared.judge.Frame.TheVariants as frame
use Rattle.fields.specs.declared.fault.Fault.{Fault}
use Rattle.std.specs.Prelude.{Result, Ok, Err}
use Rattle.fields.specs.Format.{ours, head_kind, job_kind, booking_kind, version_of, kind_of, frame_size, body_of}
use Rattle.fields.specs.Format.{head_of, job_of, booking_of}
use Rattle.fields.specs.Tests.{Verdict, first_fault, job_faults}
use Rattle.frame.specs.Sound.{SoundJob}
use Rattle.judging.specs.FrameTests.{cut}
use Rattle.frame.specs.Reading.{Progress, refused, faults_at, after_head, after_booking, after_job, after_end, after}
use Rattle.frame.specs.Reading.{read_from}
use Rattle.frame.specs.Frames.{read_on}
use Rattle.judging.specs.Steps.{frame_of, content_of, sound}
use Rattle.frame.proofs.ReadLaws.{cut-false, frame_size-pos, read_from-foreign, read_from-fault, read_from-next, read_from-enough}
use Rattle.frame.proofs.AcceptedLaws.{content_accepted}
use Rattle.frame.proofs.WriterLaws.{job_sound}

-- ── reading past one frame ──

module _ (rest : List ℕ) (at : ℕ) (g : Progress) (some : 0 < length rest) (whole : cut rest ≡ false) where
  one_more : length rest ≡ suc (length rest - 1)
  one_more = omega arith

  not-empty : eqb (length rest) 0 ≡ false
  not-empty = ne_eqb (length rest) 0 (λ e. omega arith)

  rest_of : (g : Progress) → read_from (length rest - 1) (drop (frame_size rest) rest) (at + frame_size rest) g
      ≡ read_on (drop (frame_size rest) rest) (at + frame_size rest) g
  rest_of g =
      read_from-enough (length rest - 1) (length (drop (frame_size rest) rest)) (drop (frame_size rest) rest) (at + frame_size rest) g
      (rw length-drop (omega (arith, frame_size-pos rest, cut-false rest whole)))
      (omega arith)

  pub read_on-foreign : eqb (version_of rest) ours ≡ false → read_on rest at g ≡ read_on (drop (frame_size rest) rest) (at + frame_size rest) g
  read_on-foreign v =
      ap (λ (k : ℕ). read_from k rest at g) one_more
      ∙ read_from-foreign (length rest - 1) rest at g not-empty whole v
      ∙ rest_of g

  pub read_on-fault : (f : Fault) → eqb (version_of rest) ours ≡ true → first_fault (faults_at g at rest) ≡ Err f → read_on rest at g ≡ refused f
  read_on-fault f v e =
      ap (λ (k : ℕ). read_from k rest at g) one_more ∙ read_from-fault (length rest - 1) rest at g not-empty whole f v e

  pub read_on-next : eqb (version_of rest) ours ≡ true → first_fault (faults_at g at rest) ≡ Ok tt
      → read_on rest at g ≡ read_on (drop (frame_size rest) rest) (at + frame_size rest) (after g (kind_of rest) (body_of rest))
  read_on-next v e =
      ap (λ (k : ℕ). read_from k rest at g) one_more
      ∙ read_from-next (length rest - 1) rest at g not-empty whole v e
      ∙ rest_of (after g (kind_of rest) (body_of rest))

-- ── what the judge's answer says ──

-- What a frame holds, by three tests of its kind: it is a head, a job, a booking.
module _ (h : Head) (j : Job) (k : Booking) where
  abbrev pub content : Bool → Bool → Bool → Frame
  content a b c = cond a (frame.Head h) (cond b (frame.Job j) (cond c (frame.Booking k) frame.End))

  content-head : (a b c : Bool) (h' : Head) → content a b c ≡ frame.Head h' → (a ≡ true) × (h ≡ h')
  content-head true b c h' e = (refl, cc)
  content-head false true c h' e = let z : ◌≡◌ {A = ℕ} 0 1 = cc in absurd (omega arith)
  content-head false false true h' e = let z : ◌≡◌ {A = ℕ} 0 1 = cc in absurd (omega arith)
  content-head false false false h' e = let z : ◌≡◌ {A = ℕ} 0 1 = cc in absurd (omega arith)

  content-job : (a b c : Bool) (j' : Job) → content a b c ≡ frame.Job j' → (a ≡ false) × (b ≡ true) × (j ≡ j')
  content-job true b c j' e = let z : ◌≡◌ {A = ℕ} 0 1 = cc in absurd (omega arith)
  content-job false true c j' e = (refl, refl, cc)
  content-job false false true j' e = let z : ◌≡◌ {A = ℕ} 0 1 = cc in absurd (omega arith)
  content-job false false false j' e = let z : ◌≡◌ {A = ℕ} 0 1 = cc in absurd (omega arith)

  content-booking : (a b c : Bool) (k' : Booking) → content a b c ≡ frame.Booking k'
      → (a ≡ false) × (b ≡ false) × (c ≡ true) × (k ≡ k')
  content-booking true b c k' e = let z : ◌≡◌ {A = ℕ} 0 1 = cc in absurd (omega arith)
  content-booking false true c k' e = let z : ◌≡◌ {A = ℕ} 0 1 = cc in absurd (omega arith)
  content-booking false false true k' e = (refl, refl, refl, cc)
  content-booking false false false k' e = let z : ◌≡◌ {A = ℕ} 0 1 = cc in absurd (omega arith)

  content-end : (a b c : Bool) → content a b c ≡ frame.End → (a ≡ false) × (b ≡ false) × (c ≡ false)
  content-end true b c e = let z : ◌≡◌ {A = ℕ} 0 1 = cc in absurd (omega arith)
  content-end false true c e = let z : ◌≡◌ {A = ℕ} 0 1 = cc in absurd (omega arith)
  content-end false false true e = let z : ◌≡◌ {A = ℕ} 0 1 = cc in absurd (omega arith)
  content-end false false false e = (refl, refl, refl)

  pub content-not_foreign : (a b c : Bool) → content a b c ≡ frame.Foreign → ⊥
  content-not_foreign true b c e = let z : ◌≡◌ {A = ℕ} 0 1 = cc in omega arith
  content-not_foreign false true c e = let z : ◌≡◌ {A = ℕ} 0 1 = cc in omega arith
  content-not_foreign false false true e = let z : ◌≡◌ {A = ℕ} 0 1 = cc in omega arith
  content-not_foreign false false false e = let z : ◌≡◌ {A = ℕ} 0 1 = cc in omega arith

sound-fault : (v : Verdict) (x : Frame) (f : Fault) → sound v x ≡ Err f → v ≡ Err f
sound-fault (Ok _) x f e = absurd cc
sound-fault (Err g) x f e = cc

sound-is : (v : Verdict) (x y : Frame) → sound v x ≡ Ok y → (v ≡ Ok tt) × (x ≡ y)
sound-is (Ok _) x y e = (refl, cc)
sound-is (Err f) x y e = absurd cc

module _ (g : Progress) (at : ℕ) (rest : List ℕ) where
  -- What the judge is asked of the frame at the front of rest.
  abbrev pub judgement : Result Frame Fault
  judgement =
      frame_of g.stage g.contents.head.benches (length g.contents.jobs) g.had at
      (kind_of rest) (body_of rest)

  abbrev pub is_head : Bool
  is_head = eqb (kind_of rest) head_kind

  abbrev pub is_job : Bool
  is_job = eqb (kind_of rest) job_kind

  abbrev pub is_booking : Bool
  is_booking = eqb (kind_of rest) booking_kind

  abbrev tested : Verdict
  tested = first_fault (faults_at g at rest)

  abbrev held : Frame
  held = content_of (kind_of rest) (body_of rest)

  pub frame_of-fault : (f : Fault) → judgement ≡ Err f → first_fault (faults_at g at rest) ≡ Err f
  unfolding frame_of
  frame_of-fault f e = sound-fault tested held f e

  pub frame_of-head : (h : Head) → judgement ≡ Ok (frame.Head h)
      → (first_fault (faults_at g at rest) ≡ Ok tt) × (h ≡ head_of (body_of rest))
      × (after g (kind_of rest) (body_of rest) ≡ after_head g h)
  unfolding frame_of after
  frame_of-head h e =
      let s = sound-is tested held _ e in
      let k = content-head _ _ _ is_head is_job is_booking h s.1 in
      (s.0, sym k.1, rw k.0 (ap (λ (x : Head). after_head g x) k.1))

  pub frame_of-booking : (b : Booking) → judgement ≡ Ok (frame.Booking b)
      → (first_fault (faults_at g at rest) ≡ Ok tt) × (b ≡ booking_of (body_of rest))
      × (after g (kind_of rest) (body_of rest) ≡ after_booking g b)
  unfolding frame_of after
  frame_of-booking b e =
      let s = sound-is tested held _ e in
      let k = content-booking _ _ _ is_head is_job is_booking b s.1 in
      (s.0, sym k.3, rw (k.0, k.1, k.2) (ap (λ (x : Booking). after_booking g x) k.3))

  pub frame_of-job : (j : Job) → judgement ≡ Ok (frame.Job j)
      → (first_fault (faults_at g at rest) ≡ Ok tt) × (j ≡ job_of (body_of rest))
      × (after g (kind_of rest) (body_of rest) ≡ after_job g j)
      × SoundJob g.contents.head.benches (length g.contents.jobs) j
  unfolding frame_of after
  frame_of-job j e =
      let m = g.contents.head.benches in
      let n = length g.contents.jobs in
      let s = sound-is tested held _ e in
      let k = content-job _ _ _ is_head is_job is_booking j s.1 in (
        s.0,
        sym k.2,
        rw (k.0, k.1) (ap (λ (x : Job). after_job g x) k.2),
        job_sound m n j at
            (subst (λ (x : Job). first_fault (job_faults m n x at) ≡ Ok tt) k.2
            (rw (k.0, k.1) at (content_accepted g at rest s.0))),
      )

  pub frame_of-end : judgement ≡ Ok frame.End
      → (first_fault (faults_at g at rest) ≡ Ok tt) × (after g (kind_of rest) (body_of rest) ≡ after_end g)
  unfolding frame_of after
  frame_of-end e =
      let s = sound-is tested held _ e in
      let k = content-end _ _ _ is_head is_job is_booking s.1 in
      (s.0, rw (k.0, k.1, k.2))
