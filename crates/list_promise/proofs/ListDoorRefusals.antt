-- Wrong answers of the C door to who has a list checked, each refused by one field of the claim. Every field has one,
-- but for one_case, which says nothing of the bytes. The sheet is that of ListDoorExamples, with 16 bytes for the
-- answer.
-- Both jobs on bench 1, which passes with 13 minutes:
--     good_not-passed, good_faulted     0, and the word of a fault
--     largest_other, fullest_other      other numbers
--     numbers_swapped                   the fullest bench before the largest load
--     later_number_changed, numbers_grown   a byte behind the two numbers; a table with a byte more
-- A bench that the head lacks:
--     bad_passed, bad_faulted           1, and the word of a fault
--     numbers_left                      0, and yet numbers
-- Other calls:
--     too_many_taken, too_many_written  a place too many and yet an answer; refused, and a byte changed
--     short_taken, short_written        15 bytes for the answer
--     empty_taken, empty_written        the empty sheet
use Prim.Native.Nat.{ℕ}
use mathlib.Core.Path.{◌≡◌, refl}
use mathlib.Core.List.{List, [], ◌∷◌, ◌++◌}
use native.Mathlib.Omega.{arith}
use Rattle.bits.specs.Little.{little}
use Rattle.fields.specs.declared.fault.Fault.{Fault}
use Rattle.fields.specs.declared.fault.Fault.TheVariants.{Truncated}
use Rattle.fields.specs.Format.{booked_from}
use Rattle.frame.specs.Reading.{read_from, read_sheet}
use Rattle.day.specs.Day.{day_of}
use Rattle.blocking.proofs.ClaimRefusals.{first_entry}
use Rattle.list_check.proofs.PlacesLaws.{not-both}
use Rattle.list_check.proofs.ListExamples.{two_contents, two_bytes, two_read}
use Rattle.tables.specs.Tables.{entries_of, entry_of}
use Rattle.tables.specs.Words.{fault_word}
use Rattle.tables.proofs.WordLaws.{fault_word_large}
use Rattle.door.proofs.DoorExamples.{filled, entry, pair}
use Rattle.list_promise.specs.ListDoorClaim.{RoomForList, ListDoorClaim}
use Rattle.list_promise.proofs.ListDoorExamples.{room_exact, right_claimed, not-passed-claimed}

-- ── a list that passes ──

abbrev Claimed : ℕ → List ℕ → Type 0
Claimed r numbers' = ListDoorClaim two_bytes (pair 1 1) (filled 16) r numbers'

pub good_not-passed : (numbers' : List ℕ) → Claimed 0 numbers' → ⊥
good_not-passed numbers' c =
    not-both (day_of two_contents) (entry_of (pair 1 1)) (right_claimed.passed_good two_contents room_exact refl)
    (c.not_passed_bad two_contents room_exact refl)

pub good_faulted : (f : Fault) (numbers' : List ℕ) → Claimed (fault_word f) numbers' → ⊥
good_faulted f numbers' c =
    omega (
      arith,
      c.good_passed two_contents room_exact (right_claimed.passed_good two_contents room_exact refl),
      fault_word_large f,
    )

pub largest_other : Claimed 1 (pair 12 1) → ⊥
unfolding entry_of little booked_from
largest_other c = omega (arith, (c.passed_with two_contents room_exact refl).fullest_load)

pub fullest_other : Claimed 1 (pair 13 0) → ⊥
unfolding entry_of little booked_from
fullest_other c = omega (arith, (c.passed_with two_contents room_exact refl).fullest_load)

pub numbers_swapped : Claimed 1 (pair 1 13) → ⊥
unfolding entry_of little
numbers_swapped c = omega (arith, (c.passed_with two_contents room_exact refl).fullest_bench)

pub numbers_grown : Claimed 1 (pair 13 1 ++ 165 ∷ []) → ⊥
numbers_grown c = omega (arith, (c.later_numbers_kept two_contents room_exact).1)

room_longer : RoomForList two_bytes (filled 17) two_contents
room_longer = record { sheet_accepted = two_read; two_numbers = omega arith }

pub later_number_changed : ListDoorClaim two_bytes (pair 1 1) (filled 17) 1 (pair 13 1 ++ 0 ∷ []) → ⊥
later_number_changed c = omega (arith, first_entry (c.later_numbers_kept two_contents room_longer).0)

-- ── a list that does not ──

abbrev ClaimedBad : ℕ → List ℕ → Type 0
ClaimedBad r numbers' = ListDoorClaim two_bytes (pair 0 2) (filled 16) r numbers'

pub bad_passed : (numbers' : List ℕ) → ClaimedBad 1 numbers' → ⊥
bad_passed numbers' c =
    not-both (day_of two_contents) (entry_of (pair 0 2)) (c.passed_good two_contents room_exact refl)
    (not-passed-claimed.not_passed_bad two_contents room_exact refl)

pub bad_faulted : (f : Fault) (numbers' : List ℕ) → ClaimedBad (fault_word f) numbers' → ⊥
bad_faulted f numbers' c =
    omega (
      arith,
      c.bad_not_passed two_contents room_exact (not-passed-claimed.not_passed_bad two_contents room_exact refl),
      fault_word_large f,
    )

pub numbers_left : ClaimedBad 0 (pair 6 0) → ⊥
unfolding entry_of little
numbers_left c = omega (arith, (c.not_passed_with two_contents room_exact refl).0)

-- ── faults ──

module _ (r : ℕ) where
  abbrev ClaimedLong : List ℕ → Type 0
  ClaimedLong numbers' = ListDoorClaim two_bytes (entry 1 (pair 1 1)) (filled 16) r numbers'

  pub too_many_taken : r ≡ 1 → (numbers' : List ℕ) → ClaimedLong numbers' → ⊥
  unfolding entries_of
  too_many_taken e numbers' c = omega (arith, e, (c.other_count two_contents room_exact (λ p. omega arith)).0)

  pub too_many_written : ClaimedLong (pair 13 1) → ⊥
  unfolding entries_of
  too_many_written c = omega (arith, first_entry (c.other_count two_contents room_exact (λ p. omega arith)).1)

  abbrev ClaimedShort : List ℕ → Type 0
  ClaimedShort numbers' = ListDoorClaim two_bytes (pair 1 1) (filled 15) r numbers'

  pub short_taken : r ≡ 1 → (numbers' : List ℕ) → ClaimedShort numbers' → ⊥
  short_taken e numbers' c = omega (arith, e, (c.table_short two_contents two_read (omega arith)).0)

  pub short_written : ClaimedShort (13 ∷ filled 14) → ⊥
  short_written c = omega (arith, first_entry (c.table_short two_contents two_read (omega arith)).1)

  abbrev ClaimedEmpty : List ℕ → Type 0
  ClaimedEmpty numbers' = ListDoorClaim [] (pair 1 1) (filled 16) r numbers'

  pub empty_taken : r ≡ 1 → (numbers' : List ℕ) → ClaimedEmpty numbers' → ⊥
  unfolding read_sheet read_from
  empty_taken e numbers' c = omega (arith, e, (c.sheet_refused (Truncated 0) refl).0)

  pub empty_written : ClaimedEmpty (pair 13 1) → ⊥
  unfolding read_sheet read_from
  empty_written c = omega (arith, first_entry (c.sheet_refused (Truncated 0) refl).1)
