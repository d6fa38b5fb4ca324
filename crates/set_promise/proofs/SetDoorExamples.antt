-- Sets through the C door, from the bytes of a sheet to the word and the bytes of the answer's table. Share 4/7. Two
-- benches, T = 5: a heavy job of 4 on each, light jobs of 2 and 1 on bench 0 (blocking's ClaimRefusals). Bench 0
-- carries 7, bench 1 carries 4.
--     room_exact            a table of 8 bytes is large enough
--     first-judged, second_judged     and either bench is of the head
--     passed-exact          bench 0: what a call returns, and every byte that it leaves
--     not-passed-exact      bench 1: 0, and a zero
--     empty_exact           no bench: number 17, and nothing is changed
--     foreign_exact         benches 1 and 2: number 17 with bench 2
--     short_before_set      with a byte less for the answer: 13, also if the set is empty or names bench 2
-- The same head, jobs of 4, 6 and 7 on bench 0:
--     late_judged           the same table, and bench 1
--     long_exact            bench 1: 2, and job 1
-- Each with its answer:
--     right_claimed, not-passed-claimed, long_claimed     the claim holds
use Prim.Native.Nat.{ℕ, ◌+◌, ◌*◌, ◌^◌, ◌<◌}
use mathlib.Core.Path.{◌≡◌, refl, sym, ap, ◌∙◌}
use mathlib.Core.Bool.{true}
use mathlib.Core.List.{List, [], ◌∷◌}
use native.Mathlib.Omega.{arith}
use Rattle.bits.specs.Bits.{is_set}
use Rattle.bits.specs.Little.{little_of, little_all}
use Rattle.fields.specs.declared.fault.Fault.TheVariants.{SetBench}
use Rattle.fields.specs.Contents.{Contents}
use Rattle.fields.specs.Format.{booked_from, sheet_bytes}
use Rattle.fields.specs.Tests.{booked_faults, hyper_edge_verdict}
use Rattle.frame.specs.Reading.{accepted, read_sheet}
use Rattle.frame.specs.Writing.{jobs_verdict, opening_verdict, writer_verdict}
use Rattle.frame.proofs.RoundTrip.{write_read_computed}
use Rattle.day.specs.Day.{long_job}
use Rattle.day.specs.SmallSheets.{sheet, day_with, bay, first}
use Rattle.answers.specs.declared.check.SetAnswer.{SetAnswer}
use Rattle.answers.specs.declared.check.SetAnswer.TheVariants.{Passed, Long, NotPassed, Fault as Faulty}
use Rattle.algorithm.specs.Rocks.{lowest, highest}
use Rattle.placements.specs.Classes.{to_low, placed, put_job, after, least_of}
use Rattle.placements.specs.LeastWeight.{blocks}
use Rattle.blocking.specs.Claim.{in_set}
use Rattle.blocking.proofs.ClaimRefusals.{one_full_contents, one_full_sheet, one_full_read}
use Rattle.set_check.specs.SetCheck.{foreign_in, first_answer}
use Rattle.set_check.proofs.CheckRun.{of_the_day}
use Rattle.tables.specs.Tables.{room_of, put_numbers}
use Rattle.door.proofs.DoorExamples.{filled, entry}
use Rattle.set_promise.specs.SetDoor.{door_set, set_word, set_numbers, SetCalled}
use Rattle.set_promise.specs.SetDoorClaim.{RoomForSet, JudgedAt, SetDoorClaim}
use Rattle.set_promise.proofs.SetReplies.{door_read}
use Rattle.set_promise.proofs.SetDemand.{door_claim}

-- ── two sheets, and sets of benches 0 and 1 ──

abbrev pub late_contents : Contents
late_contents = sheet (bay 2 4 7 5) (first 4 ∷ first 6 ∷ first 7 ∷ [])

abbrev pub late_sheet : List ℕ
late_sheet = sheet_bytes late_contents

pub late_read : read_sheet late_sheet ≡ accepted late_contents
unfolding is_set hyper_edge_verdict booked_from booked_faults jobs_verdict opening_verdict writer_verdict
late_read = write_read_computed late_contents refl refl refl

-- Without jobs a set of the head's benches has not passed, and no fault.
head_benches : (set : ℕ) → set < 2 ^ 64 → NotPassed ≡ first_answer (day_with (bay 2 4 7 5) []) set
    → (v : ℕ) → in_set set v ≡ true → v < 2
head_benches set small e = (of_the_day (day_with (bay 2 4 7 5) []) set e small).of_the_head

first_only : (v : ℕ) → in_set (2 ^ 63) v ≡ true → v < 2
unfolding foreign_in is_set long_job
first_only = head_benches (2 ^ 63) (omega arith) refl

second_only : (v : ℕ) → in_set (2 ^ 62) v ≡ true → v < 2
unfolding foreign_in is_set long_job
second_only = head_benches (2 ^ 62) (omega arith) refl

pub room_exact : RoomForSet one_full_sheet (filled 8) one_full_contents
room_exact = record { sheet_accepted = one_full_read; one_number = omega arith }

pub first-judged : JudgedAt one_full_sheet (2 ^ 63) (filled 8) one_full_contents
unfolding is_set
first-judged =
    record {
      room = room_exact;
      judged = record { sheet_accepted = one_full_read; some_bench = (0, refl); of_the_head = first_only };
    }

pub second_judged : JudgedAt one_full_sheet (2 ^ 62) (filled 8) one_full_contents
unfolding is_set
second_judged =
    record {
      room = room_exact;
      judged = record { sheet_accepted = one_full_read; some_bench = (1, refl); of_the_head = second_only };
    }

pub late_judged : JudgedAt late_sheet (2 ^ 62) (filled 8) late_contents
unfolding is_set
late_judged =
    record {
      room = record { sheet_accepted = late_read; one_number = omega arith };
      judged = record { sheet_accepted = late_read; some_bench = (1, refl); of_the_head = second_only };
    }

-- ── the answers ──

passes : door_set one_full_sheet (2 ^ 63) 1 ≡ Passed
unfolding foreign_in is_set long_job booked_from lowest highest to_low placed put_job after least_of blocks
passes = door_read one_full_sheet (2 ^ 63) 1 one_full_contents one_full_read (omega arith)

fails : door_set one_full_sheet (2 ^ 62) 1 ≡ NotPassed
unfolding foreign_in is_set long_job booked_from lowest highest to_low placed put_job after least_of blocks
fails = door_read one_full_sheet (2 ^ 62) 1 one_full_contents one_full_read (omega arith)

names_job : door_set late_sheet (2 ^ 62) 1 ≡ Long (record { job = 1 })
unfolding foreign_in is_set long_job
names_job = door_read late_sheet (2 ^ 62) 1 late_contents late_read (omega arith)

is_empty : door_set one_full_sheet 0 1 ≡ Faulty (SetBench 0)
is_empty = door_read one_full_sheet 0 1 one_full_contents one_full_read (omega arith)

names_bench : door_set one_full_sheet (2 ^ 62 + 2 ^ 61) 1 ≡ Faulty (SetBench 2)
unfolding foreign_in is_set
names_bench = door_read one_full_sheet (2 ^ 62 + 2 ^ 61) 1 one_full_contents one_full_read (omega arith)

-- ── the word and the table ──

abbrev Called : List ℕ → ℕ → List ℕ → ℕ → List ℕ → Type 0
Called s set numbers r numbers' = SetCalled (door_set s set (room_of numbers)) r numbers numbers'

module _ {a : SetAnswer} {numbers : List ℕ} {answer : SetAnswer} (is : answer ≡ a) where
  called_is : {r : ℕ} {numbers' : List ℕ} → SetCalled answer r numbers numbers'
      → (r ≡ set_word a) × (numbers' ≡ put_numbers (set_numbers a) numbers)
  called_is called = (
    called.word ∙ ap set_word is,
    called.new_numbers ∙ ap (λ (x : SetAnswer). put_numbers (set_numbers x) numbers) is,
  )

  is_called : SetCalled answer (set_word a) numbers (put_numbers (set_numbers a) numbers)
  is_called = record {
    word = sym (ap set_word is);
    new_numbers = sym (ap (λ (x : SetAnswer). put_numbers (set_numbers x) numbers) is);
  }

pub passed-exact : {r : ℕ} {numbers' : List ℕ} → Called one_full_sheet (2 ^ 63) (filled 8) r numbers'
    → (r ≡ 1) × (numbers' ≡ entry 0 [])
unfolding put_numbers little_of little_all
passed-exact called = called_is passes called

pub not-passed-exact : {r : ℕ} {numbers' : List ℕ} → Called one_full_sheet (2 ^ 62) (filled 8) r numbers'
    → (r ≡ 0) × (numbers' ≡ entry 0 [])
unfolding put_numbers little_of little_all
not-passed-exact called = called_is fails called

pub long_exact : {r : ℕ} {numbers' : List ℕ} → Called late_sheet (2 ^ 62) (filled 8) r numbers'
    → (r ≡ 2) × (numbers' ≡ entry 1 [])
unfolding put_numbers little_of little_all
long_exact called = called_is names_job called

pub right_claimed : SetDoorClaim one_full_sheet (2 ^ 63) (filled 8) 1 (entry 0 [])
unfolding put_numbers little_of little_all
right_claimed = door_claim one_full_sheet (2 ^ 63) (filled 8) (omega arith) (is_called passes)

pub not-passed-claimed : SetDoorClaim one_full_sheet (2 ^ 62) (filled 8) 0 (entry 0 [])
unfolding put_numbers little_of little_all
not-passed-claimed = door_claim one_full_sheet (2 ^ 62) (filled 8) (omega arith) (is_called fails)

pub long_claimed : SetDoorClaim late_sheet (2 ^ 62) (filled 8) 2 (entry 1 [])
unfolding put_numbers little_of little_all
long_claimed = door_claim late_sheet (2 ^ 62) (filled 8) (omega arith) (is_called names_job)

-- ── faults ──

pub empty_exact : {r : ℕ} {numbers' : List ℕ} → Called one_full_sheet 0 (filled 8) r numbers'
    → (r ≡ 17 * 2 ^ 32) × (numbers' ≡ filled 8)
unfolding put_numbers little_all
empty_exact called = called_is is_empty called

pub foreign_exact : {r : ℕ} {numbers' : List ℕ} → Called one_full_sheet (2 ^ 62 + 2 ^ 61) (filled 8) r numbers'
    → (r ≡ 17 * 2 ^ 32 + 2) × (numbers' ≡ filled 8)
unfolding put_numbers little_all
foreign_exact called = called_is names_bench called

pub short_before_set : (set : ℕ) → set < 2 ^ 64 → {r : ℕ} {numbers' : List ℕ}
    → Called one_full_sheet set (filled 7) r numbers' → (r ≡ 13 * 2 ^ 32) × (numbers' ≡ filled 7)
short_before_set set small called =
    (door_claim one_full_sheet set (filled 7) small called).table_short one_full_contents one_full_read (omega arith)
