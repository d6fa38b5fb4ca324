-- The tests of the faults 2 to 11, 14 and 15 at a frame (document 01, "Faults, in checking order"; request S-1).
--     cut rest                2: the sheet ends inside the frame at the front of rest
--     known_kind, out_of_stage, misplaced     3 and 4
--     content_faults          7 to 11, 14 and 15, as far as the kind has them
--     frame_faults            3 to 11, 14 and 15 at a frame of version 1, in this order
use Rattle.std.specs.Prelude.{ℕ, Bool, true, cond, not, ◌&&◌, ◌||◌, List, [], ◌∷◌, length, eqb, ltb}
use Rattle.judging.specs.declared.judge.Stage.{Stage}
use Rattle.judging.specs.declared.judge.Stage.TheVariants.{Start, Open, Closed}
use Rattle.fields.specs.declared.fault.Fault.TheVariants.{UnknownKind, Misplaced, WrongLength, SpareBit}
use Rattle.fields.specs.Format.{head_kind, job_kind, end_kind, booking_kind, header_size, frame_size, body_length}
use Rattle.fields.specs.Format.{spare_of, head_of, job_of, booking_of}
use Rattle.fields.specs.Tests.{Test, head_faults, booking_faults, job_faults}

-- "2. The sheet ends inside a frame of any version (place: that frame)"
abbrev pub cut : List ℕ → Bool
cut rest = ltb (length rest) header_size || ltb (length rest) (frame_size rest)

-- "3. A version 1 frame has a kind other than 1, 2, 3." Request S-1: "Kind 4 leaves fault 3"
abbrev pub known_kind : ℕ → Bool
known_kind kind = eqb kind head_kind || eqb kind job_kind || eqb kind end_kind || eqb kind booking_kind

-- "4. A version 1 frame is out of its place: a job or end before the head, a second head, or any after the end."
abbrev pub out_of_stage : Stage → ℕ → Bool
out_of_stage Start kind = not (eqb kind head_kind)
out_of_stage Open kind = eqb kind head_kind
out_of_stage Closed kind = true

-- Request S-1: "Bookings stand after the head and before the first job, otherwise fault 4." n jobs have been read.
abbrev pub misplaced : Stage → ℕ → ℕ → Bool
misplaced stage n kind = out_of_stage stage kind || (eqb kind booking_kind && ltb 0 n)

abbrev pub content_faults : ℕ → ℕ → (ℕ → Bool) → ℕ → ℕ → List ℕ → List Test
content_faults m n had at kind body =
    cond (eqb kind head_kind) (head_faults (head_of body) at)
    (cond (eqb kind job_kind) (job_faults m n (job_of body) at)
    (cond (eqb kind booking_kind) (booking_faults m had (booking_of body) at) []))

-- "numbers 2 to 11 are tried in this order at each frame. The place is the frame's first byte"
-- A sheet of m benches, n jobs and bookings for the benches that had says have been read; the frame begins at byte at.
unfoldable pub frame_faults : Stage → ℕ → ℕ → (ℕ → Bool) → ℕ → ℕ → List ℕ → List Test
frame_faults stage m n had at kind body =
    record { holds = not (known_kind kind); fault = UnknownKind at }
    ∷ record { holds = misplaced stage n kind; fault = Misplaced at }
    ∷ record { holds = not (eqb (length body) (body_length kind)); fault = WrongLength at }
    ∷ record { holds = not (eqb (spare_of kind body) 0); fault = SpareBit at }
    ∷ content_faults m n had at kind body
