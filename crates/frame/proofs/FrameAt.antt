-- From what the program finds at a frame (`frame_at`) to how reading goes on.
--     found                               the answer, for the progress so far
--     frame_at-had                        only benches below 64 can have had a booking frame
--     found-fault                         the sheet is refused
--     found-foreign, found-ours           the frame is whole, and of another version; of version 1
use Prim.Native.Nat.{ℕ, ◌<◌}
use mathlib.Core.Path.{◌≡◌, refl, sym, ap, ◌∙◌}
use mathlib.Core.Logic.{◌⊎◌, inl, inr, ⊎_elim}
use mathlib.Core.Bool.{Bool, true, false, cond}
use mathlib.Core.List.{List}
use lib.ListN.{length}
use lib.Dec.{eqb}
use Rattle.bools.proofs.BoolLaws.{clash}
use Rattle.fields.specs.declared.fault.Fault.{Fault}
use Rattle.fields.specs.declared.fault.Fault.TheVariants.{Truncated}
use Rattle.std.specs.Prelude.{Result, Ok, Err}
use Rattle.judging.specs.declared.judge.Frame.{Frame}
use Rattle.judging.specs.declared.judge.Frame.TheVariants as frame
use Rattle.fields.specs.Format.{ours, booking_layout, version_of, kind_of, body_of, head_of, job_of, booking_of}
use Rattle.fields.specs.Tests.{Verdict, first_fault}
use Rattle.bits.specs.Layout.{field}
use Rattle.bits.proofs.BitsLaws.{bits-lt}
use Rattle.judging.specs.declared.judge.Stage.{Stage}
use Rattle.judging.specs.FrameTests.{cut, frame_faults}
use Rattle.frame.specs.Reading.{Progress, refused, faults_at}
use Rattle.frame.specs.Frames.{read_on}
use Rattle.judging.specs.Steps.{frame_of, frame_at, content_of, sound}
use Rattle.frame.proofs.WholeFrames.{read_on-cut}
use Rattle.frame.proofs.JudgeLaws.{read_on-fault, judgement, frame_of-fault}
use Rattle.frame.proofs.JudgeLaws.{is_head, is_job, is_booking, content-not_foreign}

-- A frame of version 1.
abbrev pub holds_something : Frame → Bool
holds_something frame.Foreign = false
holds_something (frame.Head h) = true
holds_something (frame.Booking b) = true
holds_something (frame.Job j) = true
holds_something frame.End = true

-- A frame cut short, then one of version 1, which gives v, or else a foreign one.
picked : (b c : Bool) (f : Fault) (v : Result Frame Fault) (x : Frame) → cond b (Err f) (cond c v (Ok frame.Foreign)) ≡ Ok x
    → holds_something x ≡ true → (b ≡ false) × (c ≡ true) × (v ≡ Ok x)
picked true c f v x e h = absurd cc
picked false true f v x e h = (refl, refl, e)
picked false false f v x e h = let is : frame.Foreign ≡ x = cc in clash h (sym (ap holds_something is))

picked_fault : (b c : Bool) (f : Fault) (v : Result Frame Fault) (f' : Fault)
    → cond b (Err f) (cond c v (Ok frame.Foreign)) ≡ Err f'
    → ((b ≡ true) × (f ≡ f')) ⊎ ((b ≡ false) × (c ≡ true) × (v ≡ Err f'))
picked_fault true c f v f' e = inl (refl, cc)
picked_fault false true f v f' e = inr (refl, refl, e)
picked_fault false false f v f' e = absurd cc

picked_foreign : (b c : Bool) (f : Fault) (v : Result Frame Fault) → (v ≡ Ok frame.Foreign → ⊥)
    → cond b (Err f) (cond c v (Ok frame.Foreign)) ≡ Ok frame.Foreign → (b ≡ false) × (c ≡ false)
picked_foreign true c f v k e = absurd cc
picked_foreign false true f v k e = absurd (k e)
picked_foreign false false f v k e = (refl, refl)

sound-not_foreign : (v : Verdict) (x : Frame) → (x ≡ frame.Foreign → ⊥) → sound v x ≡ Ok frame.Foreign → ⊥
sound-not_foreign (Ok _) x k e = k cc
sound-not_foreign (Err f) x k e = cc

pub frame_at-had : (stage : Stage) (m n : ℕ) (had had' : ℕ → Bool) (at : ℕ) (rest : List ℕ)
    → ((v : ℕ) → v < 64 → had v ≡ had' v) → frame_at stage m n had at rest ≡ frame_at stage m n had' at rest
unfolding frame_at frame_of frame_faults
frame_at-had stage m n had had' at rest e =
    rw (e (field booking_layout 0 (body_of rest)) (bits-lt (body_of rest) 0 6))

module _ (g : Progress) (at : ℕ) (rest : List ℕ) where
  abbrev pub found : Result Frame Fault
  found = frame_at g.stage g.contents.head.benches (length g.contents.jobs) g.had at rest

  pub found-fault : 0 < length rest → (f : Fault) → found ≡ Err f → read_on rest at g ≡ refused f
  unfolding frame_at
  found-fault some f e =
      ⊎_elim
      (λ w. read_on-cut rest at g some w.0 ∙ ap (λ (x : Fault). refused x) w.1)
      (λ w. read_on-fault rest at g some w.0 f w.1 (frame_of-fault g at rest f w.2))
      (picked_fault (cut rest) (eqb (version_of rest) ours) (Truncated at) (judgement g at rest) f e)

  pub found-foreign : found ≡ Ok frame.Foreign → (cut rest ≡ false) × (eqb (version_of rest) ours ≡ false)
  unfolding frame_at frame_of
  found-foreign e =
      picked_foreign (cut rest) (eqb (version_of rest) ours) (Truncated at) (judgement g at rest)
      (sound-not_foreign (first_fault (faults_at g at rest)) (content_of (kind_of rest) (body_of rest))
      (content-not_foreign (head_of (body_of rest)) (job_of (body_of rest)) (booking_of (body_of rest))
      (is_head g at rest) (is_job g at rest) (is_booking g at rest))) e

  pub found-ours : (x : Frame) → holds_something x ≡ true → found ≡ Ok x
      → (cut rest ≡ false) × (eqb (version_of rest) ours ≡ true) × (judgement g at rest ≡ Ok x)
  unfolding frame_at
  found-ours x h e = picked (cut rest) (eqb (version_of rest) ours) (Truncated at) (judgement g at rest) x e h
