-- The number and the place of each fault (document 01, "Faults, in checking order"): one definition for every case of
-- the program's enum, used by all contracts. A number that is added later is a new case.
--     number_of f     the number that users see
--     place_of f      the place that users see: the frame's first byte, the sheet's length, the number of a job, of a
--                    bench or of a set on a page, or 0
use Rattle.std.specs.Prelude.{ℕ}
use Rattle.fields.specs.declared.fault.Fault.{Fault}
use Rattle.fields.specs.declared.fault.Fault.TheVariants.{TooLong, Truncated, UnknownKind}
use Rattle.fields.specs.declared.fault.Fault.TheVariants.{Misplaced, WrongLength, SpareBit, BenchCount}
use Rattle.fields.specs.declared.fault.Fault.TheVariants.{Share, JobCount, Minutes, Allowed}
use Rattle.fields.specs.declared.fault.Fault.TheVariants.{HeavyHyperEdge, Table, BookedBench, BookedTwice}
use Rattle.fields.specs.declared.fault.Fault.TheVariants.{PlaceCount, SetBench, SharedBench}

abbrev pub number_of : Fault → ℕ
-- "The sheet is longer than 65,536 bytes (place 0)."
number_of TooLong = 1
-- "The sheet ends inside a frame of any version (place: that frame), or its frames are over and none was an end frame."
number_of (Truncated at) = 2
-- "A version 1 frame has a kind other than 1, 2, 3." Kind 4 leaves it (request S-1).
number_of (UnknownKind at) = 3
-- "A version 1 frame is out of its place: a job or end before the head, a second head, or any after the end."
-- Bookings stand after the head and before the first job.
number_of (Misplaced at) = 4
-- "The body length is not that of its kind."
number_of (WrongLength at) = 5
-- "A spare bit is 1."
number_of (SpareBit at) = 6
-- "The head has 0 benches or more than 64."
number_of (BenchCount at) = 7
-- "The share is bad: q is 0, or 7p < 4q, or p ≥ q."
number_of (Share at) = 8
-- "It is the 513th job."
number_of (JobCount at) = 9
-- "A job has 0 minutes." By request S-3 it is the writer's alone: minutes too wide for the field, or not given.
number_of (Minutes at) = 10
-- "A job allows no bench, or a bench the head lacks."
number_of (Allowed at) = 11
-- "a job allows three or more benches and q × minutes > p × W (place: the lowest such job number)"
number_of (HeavyHyperEdge job) = 12
-- "The table of places is shorter than the jobs, or the table of loads shorter than the benches (place 0)"; the
-- output does not fit.
number_of (Table at) = 13
-- Request S-1: "number 14 says that the bench is not in the head or, from the writer, that the minutes are too wide
-- for the field"
number_of (BookedBench at) = 14
-- "then number 15 that the bench already had a booking frame"
number_of (BookedTwice at) = 15
-- Request S-6: "number 16 says that the list does not have one place a job"
number_of PlaceCount = 16
-- "and number 17 that the set is empty or names a bench not in the head"
number_of (SetBench at) = 17
-- Request S-7: "number 18, that it shares a bench with an earlier one"
number_of (SharedBench set) = 18

abbrev pub place_of : Fault → ℕ
place_of TooLong = 0
place_of (Truncated at) = at
place_of (UnknownKind at) = at
place_of (Misplaced at) = at
place_of (WrongLength at) = at
place_of (SpareBit at) = at
place_of (BenchCount at) = at
place_of (Share at) = at
place_of (JobCount at) = at
place_of (Minutes at) = at
place_of (Allowed at) = at
place_of (HeavyHyperEdge job) = job
place_of (Table at) = at
place_of (BookedBench at) = at
place_of (BookedTwice at) = at
-- "A fault about a bench in other data has the number of the lowest such bench, ... and any other fault has place 0."
place_of PlaceCount = 0
-- On a page of sets "the place of both is the set's number" (request S-7).
place_of (SetBench at) = at
place_of (SharedBench set) = set
