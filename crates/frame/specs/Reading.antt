-- What a sheet is read as: its contents, or its first fault (document 01, "Faults, in checking order").
--     Progress                how far reading has come, which benches had a booking frame, and the contents so far
--     Read                    what a sheet is read as
--     no_head, no_contents, nothing_read  before the first frame
--     faults_at               numbers 3 to 11, 14 and 15 at a frame of version 1, in this order (judging FrameTests:
--                             frame_faults)
--     with_head, with_booking, with_job    contents with another head; with a booking; with one job more
--     had_with had b          the benches that had a booking frame, with that of the booking b
--     after_head, after_booking, after_job, after_end, after    the progress after a sound frame of version 1
--     end_verdict, ending     after the last frame
--     read_from               the frames from byte at on. The first argument bounds the frames that are left to read
--     read_sheet              the whole sheet
--     sheet_of, stored        the program's sheet, and what it is given as: the sheet, or its first fault
use Rattle.std.specs.Prelude.{ℕ, zero, suc, ◌+◌, ◌-◌, Bool, true, false, cond, ◌||◌, List, [], ◌∷◌, ◌++◌}
use Rattle.std.specs.Prelude.{map, length, drop, replicate, set, eqb, ltb, Result, Ok, Err}
use Rattle.fields.specs.declared.sheet.Head.{Head}
use Rattle.fields.specs.declared.sheet.Booking.{Booking}
use Rattle.fields.specs.declared.sheet.Job.{Job}
use Rattle.fields.specs.Contents.{Contents, no_bookings}
use Rattle.fields.specs.declared.sheet.Sheet.{Sheet}
use Rattle.judging.specs.declared.judge.Stage.{Stage}
use Rattle.judging.specs.declared.judge.Stage.TheVariants.{Start, Open, Closed}
use Rattle.fields.specs.declared.fault.Fault.{Fault}
use Rattle.fields.specs.declared.fault.Fault.TheVariants.{TooLong, Truncated}
use Rattle.fields.specs.Format.{ours, head_kind, job_kind, booking_kind, version_of, kind_of, frame_size, body_of}
use Rattle.fields.specs.Format.{head_of, job_of, booking_of}
use Rattle.fields.specs.Tests.{Verdict, Test, first_fault, none_had, hyper_edge_verdict}
use Rattle.judging.specs.FrameTests.{cut}
unfoldable pub use Rattle.judging.specs.FrameTests.{frame_faults}

-- Start: the head is still to come. Open: the end frame is. Closed: both have come. `had b`: a booking frame of bench b
-- has come, also if it booked 0 minutes.
pub record Progress : Type 0 where
  pub stage : Stage
  pub had : ℕ → Bool
  pub contents : Contents

pub data Read : Type 0 where
  accepted : Contents → Read
  refused : Fault → Read

abbrev pub no_head : Head
no_head = record { benches = 0; p = 0; q = 0; target = 0 }

abbrev pub no_contents : Contents
no_contents = record { head = no_head; booked = no_bookings; jobs = [] }

abbrev pub nothing_read : Progress
nothing_read = record { stage = Start; had = none_had; contents = no_contents }

abbrev pub faults_at : Progress → ℕ → List ℕ → List Test
faults_at g at frame =
    frame_faults g.stage g.contents.head.benches (length g.contents.jobs) g.had at
    (kind_of frame) (body_of frame)

-- The contents with this head; with this booking; with one job more.
abbrev pub with_head : Contents → Head → Contents
with_head c h = record { head = h; booked = c.booked; jobs = c.jobs }

abbrev pub with_booking : Contents → Booking → Contents
with_booking c b = record { head = c.head; booked = set c.booked b.bench b.minutes; jobs = c.jobs }

abbrev pub with_job : Contents → Job → Contents
with_job c j = record { head = c.head; booked = c.booked; jobs = c.jobs ++ (j ∷ []) }

-- The benches that had a booking frame, with one more.
abbrev pub had_with : (ℕ → Bool) → Booking → ℕ → Bool
had_with had b v = had v || eqb v b.bench

-- The progress after a sound head, booking, job or end.
abbrev pub after_head : Progress → Head → Progress
after_head g h = record { stage = Open; had = g.had; contents = with_head g.contents h }

abbrev pub after_booking : Progress → Booking → Progress
after_booking g b = record { stage = g.stage; had = had_with g.had b; contents = with_booking g.contents b }

abbrev pub after_job : Progress → Job → Progress
after_job g j = record { stage = g.stage; had = g.had; contents = with_job g.contents j }

abbrev pub after_end : Progress → Progress
after_end g = record { stage = Closed; had = g.had; contents = g.contents }

unfoldable pub after : Progress → ℕ → List ℕ → Progress
after g kind body =
    cond (eqb kind head_kind) (after_head g (head_of body))
    (cond (eqb kind job_kind) (after_job g (job_of body))
    (cond (eqb kind booking_kind) (after_booking g (booking_of body)) (after_end g)))

abbrev pub judged : Verdict → Contents → Read
judged (Ok _) c = accepted c
judged (Err f) c = refused f

-- "or its frames are over and none was an end frame (place: the sheet's length)"; then 12.
abbrev pub end_verdict : Stage → ℕ → Contents → Verdict
end_verdict Start at c = Err (Truncated at)
end_verdict Open at c = Err (Truncated at)
end_verdict Closed at c = hyper_edge_verdict c.head c.jobs

abbrev pub ending : Progress → ℕ → Read
ending g at = judged (end_verdict g.stage at g.contents) g.contents

-- "A frame whose version is not 1 is skipped by its length, wherever it stands, also after the end frame."
unfoldable pub read_from : ℕ → List ℕ → ℕ → Progress → Read
read_from zero rest at g = ending g at
read_from (suc k) rest at g =
    elim (eqb (length rest) 0) [
      | true ↦ ending g at
      | false ↦
          elim (cut rest) [
            | true ↦ refused (Truncated at)
            | false ↦
                elim (eqb (version_of rest) ours) [
                  | false ↦ read_from k (drop (frame_size rest) rest) (at + frame_size rest) g
                  | true ↦
                      elim (first_fault (faults_at g at rest)) [
                        | Err f ↦ refused f
                        | Ok _ ↦
                            read_from k (drop (frame_size rest) rest) (at + frame_size rest)
                            (after g (kind_of rest) (body_of rest))
                      ]
                ]
          ]
    ]

-- "1. The sheet is longer than 65,536 bytes (place 0)." A sheet has fewer frames than bytes.
unfoldable pub read_sheet : List ℕ → Read
read_sheet s = elim (ltb 65536 (length s)) [ true ↦ refused TooLong | false ↦ read_from (length s) s 0 nothing_read ]

-- The program's sheet has room for 64 benches and for 512 jobs; the entries past the jobs are 0.
abbrev pub padded : List ℕ → List ℕ
padded xs = xs ++ replicate (512 - length xs) 0

abbrev pub sheet_of : Contents → Sheet
sheet_of c =
    record {
      head = c.head;
      booked = c.booked;
      count = length c.jobs;
      minutes = padded (map (λ j. j.minutes) c.jobs);
      allowed = padded (map (λ j. j.allowed) c.jobs);
    }

unfoldable pub stored : Read → Result Sheet Fault
stored (accepted c) = Ok (sheet_of c)
stored (refused f) = Err f
