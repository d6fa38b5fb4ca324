-- What the program finds at a frame.
--     content_of kind body    what a sound frame of version 1 holds
--     frame_of                 that, or the first of the faults 3 to 11, 14 and 15
--     frame_at                 the same of the frame at the front of rest, cut short (2) or of another version perhaps
use Rattle.std.specs.Prelude.{ℕ, Bool, cond, List, eqb, Result, Ok, Err}
use Rattle.judging.specs.declared.judge.Stage.{Stage}
use Rattle.judging.specs.declared.judge.Frame.{Frame}
use Rattle.judging.specs.declared.judge.Frame.TheVariants.{Foreign, Head, Booking, Job, End}
use Rattle.fields.specs.declared.fault.Fault.{Fault}
use Rattle.fields.specs.declared.fault.Fault.TheVariants.{Truncated}
use Rattle.fields.specs.Format.{ours, head_kind, job_kind, booking_kind, version_of, kind_of, body_of}
use Rattle.fields.specs.Format.{head_of, job_of, booking_of}
use Rattle.judging.specs.FrameTests.{frame_faults, cut}
use Rattle.fields.specs.Tests.{Verdict, first_fault}

abbrev pub content_of : ℕ → List ℕ → Frame
content_of kind body =
    cond (eqb kind head_kind) (Head (head_of body))
    (cond (eqb kind job_kind) (Job (job_of body))
    (cond (eqb kind booking_kind) (Booking (booking_of body)) End))

abbrev pub sound : Verdict → Frame → Result Frame Fault
sound (Ok _) x = Ok x
sound (Err f) x = Err f

unfoldable pub frame_of : Stage → ℕ → ℕ → (ℕ → Bool) → ℕ → ℕ → List ℕ → Result Frame Fault
frame_of stage m n had at kind body =
    sound (first_fault (frame_faults stage m n had at kind body)) (content_of kind body)

unfoldable pub frame_at : Stage → ℕ → ℕ → (ℕ → Bool) → ℕ → List ℕ → Result Frame Fault
frame_at stage m n had at rest =
    cond (cut rest) (Err (Truncated at))
    (cond (eqb (version_of rest) ours) (frame_of stage m n had at (kind_of rest) (body_of rest)) (Ok Foreign))
