-- The words in which the laws of reading are stated (document 01, "The sheet" and "Faults, in checking order").
-- Whole frames, and frames added between them:
--     WholeFrame f            f is exactly one whole frame, of any version
--     Foreign f               it is one of a version that is skipped
--     Row s                   s is a row of whole frames
--     Padded s t              t is s with foreign frames added between its frames
--     added_before p at       the bytes that p : Padded s t adds before byte at of s
--     moved_by by f           the fault f, its byte place at moved on by (by at) bytes
--     from_on from by at      the bytes added before byte at, if by bytes are added at byte from
--     moved from by f         the fault f, its byte place moved on by by bytes if it is byte from or a later one
--     moved_read_by, moved_read  the same for what a sheet is read as
-- The tests at a frame:
--     NoneHolds ts            no test of ts holds
--     FirstTest ts f          the first test of ts that holds is that of the fault f
-- The judgement of a sheet:
--     read_on rest at g        what is read from byte at on, with the bytes rest left and the progress g
--     Reached s at rest g     reading s comes to byte at with the bytes rest left and the progress g
--     FaultHere s at rest g f       at this place the fault f is found
--     SheetFault s f          reading s comes to such a place
--     SheetSound s c          reading s comes to its end with the contents c, and finds no fault
--     Judgement s r           what s has to be read as
-- A booking of 0 minutes (request S-1):
--     BookingPlace s b at rest g      byte at of s is a place for a booking of bench b
--     NoBookingOf b s         no frame that reading s comes to is a booking of bench b
use Rattle.std.specs.Prelude.{ℕ, ◌+◌, ◌-◌, ◌≤◌, ◌<◌, ◌≡◌, true, false, cond, ◌≢◌, List, [], ◌∷◌, ◌++◌, length, leb, ltb}
use Rattle.fields.specs.Contents.{Contents}
use Rattle.judging.specs.declared.judge.Stage.TheVariants.{Open, Closed}
use Rattle.fields.specs.declared.fault.Fault.{Fault}
use Rattle.fields.specs.declared.fault.Fault.TheVariants.{TooLong, Truncated, UnknownKind, Misplaced, WrongLength}
use Rattle.fields.specs.declared.fault.Fault.TheVariants.{SpareBit, BenchCount, Share, JobCount, Minutes, Allowed}
use Rattle.fields.specs.declared.fault.Fault.TheVariants.{HeavyHyperEdge, Table, BookedBench, BookedTwice}
use Rattle.fields.specs.declared.fault.Fault.TheVariants.{PlaceCount, SetBench, SharedBench}
use Rattle.fields.specs.Format.{ours, booking_kind, header_size, version_of, kind_of, frame_size, body_of, booking_of}
use Rattle.fields.specs.Tests.{Test, heavy_hyper_edge_at, LowestHeavyHyperEdge}
use Rattle.judging.specs.FrameTests.{cut}
use Rattle.frame.specs.Reading.{Progress, Read, accepted, refused, nothing_read, faults_at, after, read_from}

-- ── whole frames ──

-- "A frame header has 24 bits", and gives the length of the body behind it.
pub record WholeFrame (f : List ℕ) : Type 0 where
  pub header : header_size ≤ length f
  pub size : frame_size f ≡ length f

-- "A frame whose version is not 1"
pub record Foreign (f : List ℕ) : Type 0 where
  pub whole : WholeFrame f
  pub version : version_of f ≢ ours

-- "A sheet is a row of frames"
pub data Row : List ℕ → Type 0 where
  no_frame : Row []
  a_frame : {f s : List ℕ} → WholeFrame f → Row s → Row (f ++ s)

-- ── added frames ──

-- "Adding whole frames of other versions between frames": frame by frame, t has a frame more, or the next frame of s,
-- or all that is left of s, which need not be whole frames. Any number of frames is added: before the head, between,
-- and after the end.
pub data Padded : List ℕ → List ℕ → Type 0 where
  unchanged : {s : List ℕ} → Padded s s
  kept : {f s t : List ℕ} → WholeFrame f → Padded s t → Padded (f ++ s) (f ++ t)
  added : {f s t : List ℕ} → Foreign f → Padded s t → Padded s (f ++ t)

unfoldable pub added_before : {s t : List ℕ} → Padded s t → ℕ → ℕ
added_before unchanged at = 0
added_before (kept {f} w p) at = cond (ltb at (length f)) 0 (added_before p (at - length f))
added_before (added {f} w p) at = length f + added_before p at

-- "fault places counted in bytes move along". Faults 1, 12, 13, 16 and 17 have no byte place.
unfoldable pub moved_by : (ℕ → ℕ) → Fault → Fault
moved_by by TooLong = TooLong
moved_by by (Truncated at) = Truncated (at + by at)
moved_by by (UnknownKind at) = UnknownKind (at + by at)
moved_by by (Misplaced at) = Misplaced (at + by at)
moved_by by (WrongLength at) = WrongLength (at + by at)
moved_by by (SpareBit at) = SpareBit (at + by at)
moved_by by (BenchCount at) = BenchCount (at + by at)
moved_by by (Share at) = Share (at + by at)
moved_by by (JobCount at) = JobCount (at + by at)
moved_by by (Minutes at) = Minutes (at + by at)
moved_by by (Allowed at) = Allowed (at + by at)
moved_by by (HeavyHyperEdge job) = HeavyHyperEdge job
moved_by by (Table at) = Table at
moved_by by (BookedBench at) = BookedBench (at + by at)
moved_by by (BookedTwice at) = BookedTwice (at + by at)
moved_by by PlaceCount = PlaceCount
moved_by by (SetBench at) = SetBench at
moved_by by (SharedBench set) = SharedBench set

-- Where by bytes are added at byte from, those before byte at.
abbrev pub from_on : ℕ → ℕ → ℕ → ℕ
from_on from by at = cond (leb from at) by 0

abbrev pub moved : ℕ → ℕ → Fault → Fault
moved from by f = moved_by (from_on from by) f

unfoldable pub moved_read_by : (ℕ → ℕ) → Read → Read
moved_read_by by (accepted c) = accepted c
moved_read_by by (refused f) = refused (moved_by by f)

abbrev pub moved_read : ℕ → ℕ → Read → Read
moved_read from by r = moved_read_by (from_on from by) r

-- ── the tests at a frame ──

abbrev pub NoneHolds : List Test → Type 0
NoneHolds [] = Unit {0}
NoneHolds (t ∷ ts) = (t.holds ≡ false) × NoneHolds ts

pub record FirstTest (ts : List Test) (f : Fault) : Type 0 where
  pub before : List Test
  pub test : Test
  pub later : List Test
  pub order : ts ≡ before ++ test ∷ later
  pub none_before : NoneHolds before
  pub holds_here : test.holds ≡ true
  pub fault_here : test.fault ≡ f

-- ── the judgement of a sheet ──

-- As many frames as there are bytes left are enough.
abbrev pub read_on : List ℕ → ℕ → Progress → Read
read_on rest at g = read_from (length rest) rest at g

-- "Frames are judged in sheet order": every frame before byte at is whole, and is foreign or one of version 1 in which
-- no test holds.
pub data Reached (s : List ℕ) : ℕ → List ℕ → Progress → Type 0 where
  start : Reached s 0 s nothing_read
  past_foreign : {at : ℕ} {f rest : List ℕ} {g : Progress} → Reached s at (f ++ rest) g → Foreign f
      → Reached s (at + length f) rest g
  past_sound : {at : ℕ} {f rest : List ℕ} {g : Progress} → Reached s at (f ++ rest) g → WholeFrame f
      → version_of f ≡ ours
      → NoneHolds (faults_at g at f) → Reached s (at + length f) rest (after g (kind_of f) (body_of f))

-- "numbers 2 to 11 are tried in this order at each frame", and what is judged after the last one.
pub data FaultHere (s : List ℕ) (at : ℕ) (rest : List ℕ) (g : Progress) : Fault → Type 0 where
  -- "2. The sheet ends inside a frame of any version (place: that frame)"
  ends_inside : 0 < length rest → cut rest ≡ true → FaultHere s at rest g (Truncated at)
  -- 3 to 11, 14 and 15: a whole frame of version 1, and the first of its tests that holds.
  in_frame : {f : Fault} (frame later : List ℕ) → rest ≡ frame ++ later → WholeFrame frame → version_of frame ≡ ours
      → FirstTest (faults_at g at frame) f → FaultHere s at rest g f
  -- "2. … or its frames are over and none was an end frame (place: the sheet's length)"
  no_end : rest ≡ [] → g.stage ≢ Closed → FaultHere s at rest g (Truncated (length s))
  -- "12. After the whole sheet: …"
  heavy_hyper_edge : {n : ℕ} → rest ≡ [] → g.stage ≡ Closed
      → LowestHeavyHyperEdge g.contents.head g.contents.jobs n
      → FaultHere s at rest g (HeavyHyperEdge n)

-- The first fault of a sheet: the place is reached, so no frame before it has a fault.
pub record SheetFault (s : List ℕ) (f : Fault) : Type 0 where
  pub at : ℕ
  pub rest : List ℕ
  pub progress : Progress
  pub reached : Reached s at rest progress
  pub fault_here : FaultHere s at rest progress f

-- The sheet's frames are over, its end frame has come, and 12 holds of no job.
pub record SheetSound (s : List ℕ) (c : Contents) : Type 0 where
  pub progress : Progress
  pub reached : Reached s (length s) [] progress
  pub closed : progress.stage ≡ Closed
  pub contents_read : progress.contents ≡ c
  pub none_heavy : (n : ℕ) → n < length c.jobs → heavy_hyper_edge_at c.head c.jobs n ≡ false

-- "1. The sheet is longer than 65,536 bytes", then the first of the others, or none.
pub data Judgement (s : List ℕ) : Read → Type 0 where
  too_long : 65536 < length s → Judgement s (refused TooLong)
  faulty : {f : Fault} → length s ≤ 65536 → SheetFault s f → Judgement s (refused f)
  sound : {c : Contents} → length s ≤ 65536 → SheetSound s c → Judgement s (accepted c)

-- ── a booking of 0 minutes ──

-- "after the head and before the first job": reading comes to byte at, the head has come and no job has.
pub record BookingPlace (s : List ℕ) (b at : ℕ) (rest : List ℕ) (g : Progress) : Type 0 where
  pub reached : Reached s at rest g
  pub stage_is : g.stage ≡ Open
  pub no_job : length g.contents.jobs ≡ 0
  pub bench_of_head : b < g.contents.head.benches

abbrev pub NoBookingOf : ℕ → List ℕ → Type 0
NoBookingOf b s =
    (at : ℕ) (f rest : List ℕ) (g : Progress) → Reached s at (f ++ rest) g → WholeFrame f → version_of f ≡ ours
    → kind_of f ≡ booking_kind → (booking_of (body_of f)).bench ≢ b
