-- The header's example of reading: two benches, share 4/7, target 9, bench 1 booked for 4, a job of 5 minutes on both
-- benches and a check on bench 1. So the premises of the law can be met.
--     example_read      its 48 bytes, written into any output with room for them, are read into any table with room for
--                       two jobs
use Prim.Native.Nat.{ℕ, ◌+◌, ◌^◌, ◌≤◌}
use native.Mathlib.Omega.{arith}
use mathlib.Core.Path.{◌≡◌, refl, sym, ap, ◌∙◌}
use mathlib.Core.List.{List, [], ◌∷◌}
use lib.ListN.{length, take}
use borrow.Author.Tests.{le-leb}
use Rattle.bits.specs.Bits.{Bytes, is_set, bytes_of}
use Rattle.bits.specs.Little.{little, little_of, little_all}
use Rattle.bits.proofs.BitsLaws.{Bytes-nil, Bytes-append}
use Rattle.bits.proofs.LittleLaws.{Bytes-little_of}
use Rattle.fields.specs.declared.sheet.Head.{Head}
use Rattle.fields.specs.Contents.{Contents}
use Rattle.fields.specs.Format.{booked_from, booking_frames, job_frames, sheet_bytes}
use Rattle.fields.specs.Tests.{booked_faults, hyper_edge_verdict}
use Rattle.std.specs.Prelude.{Ok}
use Rattle.frame.specs.Reading.{read_sheet}
use Rattle.frame.specs.Writing.{jobs_verdict, opening_verdict, writer_verdict, write_sheet, output}
use Rattle.frame.proofs.WriterLaws.{write_accepted}
use Rattle.tables.specs.Tables.{entries_of, entry_of, numbers_of, given_at, given_numbers}
use Rattle.door.specs.Door.{head_of, contents_in, written_word}
use Rattle.read_door.specs.ReadDoor.{read_word, contents_table}
use Rattle.door_round_trip.specs.GivenBack.{WrittenThenRead}

abbrev head : Head
head = head_of 2 4 7 9

abbrev booked : List ℕ
booked = little_all 8 (0 ∷ 4 ∷ [])

abbrev minutes : List ℕ
minutes = little_all 8 (5 ∷ 0 ∷ [])

-- Bench 0 is the highest bit.
abbrev both_benches : ℕ
both_benches = 2 ^ 63 + 2 ^ 62

abbrev bench_1 : ℕ
bench_1 = 2 ^ 62

abbrev allowed : List ℕ
allowed = little_all 8 (both_benches ∷ bench_1 ∷ [])

abbrev given : Contents
given = contents_in head booked minutes allowed

allowed-bytes : Bytes allowed
unfolding little_all
allowed-bytes =
    Bytes-append (little_of 8 both_benches) (little_all 8 (bench_1 ∷ [])) (Bytes-little_of 8 both_benches)
    (Bytes-append (little_of 8 bench_1) [] (Bytes-little_of 8 bench_1) Bytes-nil)

faultless : writer_verdict given ≡ Ok tt
unfolding writer_verdict opening_verdict jobs_verdict booked_faults hyper_edge_verdict booked_from is_set
    little little_of little_all entries_of entry_of numbers_of given_at given_numbers
faultless = refl

size : length (sheet_bytes given) ≡ 48
unfolding booked_from booking_frames job_frames bytes_of
    little little_of little_all entries_of entry_of numbers_of given_at given_numbers
size = refl

two_jobs : entries_of minutes ≡ 2
unfolding entries_of little_of little_all
two_jobs = refl

module _ (out t : List ℕ) (room-for-sheet : 48 ≤ length out) (room-for-two : 576 ≤ length t) where
  written : write_sheet given (length out) ≡ Ok 48
  written = write_accepted given (length out) faultless ∙ rw (size, le-leb 48 (length out) room-for-sheet)

  abbrev after : List ℕ
  after = output (write_sheet given (length out)) given out

  pub example_read : WrittenThenRead head booked minutes allowed out 48 after t
      (read_word (read_sheet (take 48 after)) (length t)) (contents_table (read_sheet (take 48 after)) t)
  example_read = record {
    all_bytes = allowed-bytes;
    write_called = record { word = sym (ap written_word written); new_output = refl };
    no_fault = omega arith;
    room = omega (arith, two_jobs, room-for-two);
    read_called = record { word = refl; new_table = refl };
  }
