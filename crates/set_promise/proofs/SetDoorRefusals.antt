-- Wrong answers of the C door to who has a set checked, each refused by one field of the claim. Every field has one,
-- but for one_case, which says nothing of the bytes. The sheets are those of SetDoorExamples, with 8 bytes for the
-- answer.
-- Bench 0, which passes:
--     good_not-passed, good_other       0, and any word but 1
--     good_numbered                     1, and yet a number
--     later_number_changed, numbers_grown   a byte behind the number; a table with a byte more
-- Bench 1, which does not:
--     bad_passed, bad_faulted           1, and the word of a fault
--     bad_numbered                      0, and yet a number
-- A sheet whose jobs 1 and 2 are long:
--     late_other                        any word but 2
--     late_passed, late_not_passed      1 and 0
--     second-long_named, short_job_named    2 with job 2, and with job 0
-- A sheet whose jobs fit on its benches (blocking's ClaimExamples):
--     rival_passed, rival_long          1 and 2, for any set of the head's benches
-- Other calls:
--     no_bench_taken, no_bench_written  the empty set and yet an answer; refused, and a byte changed
--     foreign_taken, foreign_written    benches 1 and 2, of which the head lacks one
--     other_bench_named                 number 17 with bench 1
--     short_taken, short_written        7 bytes for the answer
--     empty_taken, empty_written        the empty sheet
use Prim.Native.Nat.{ℕ, ◌+◌, ◌/◌, ◌^◌, ◌<◌}
use mathlib.Core.Path.{◌≡◌, refl}
use mathlib.Core.Logic.{◌≢◌, inl, inr}
use mathlib.Core.Bool.{true}
use mathlib.Core.List.{List, [], ◌∷◌}
use native.Mathlib.Omega.{arith}
use Rattle.bools.proofs.BoolLaws.{clash}
use Rattle.bits.specs.Bits.{is_set}
use Rattle.bits.specs.Little.{little}
use Rattle.bits.proofs.SetBits.{is_set-zero}
use Rattle.fields.specs.declared.fault.Fault.{Fault}
use Rattle.fields.specs.declared.fault.Fault.TheVariants.{Truncated, SetBench}
use Rattle.frame.specs.Reading.{read_from, read_sheet}
use Rattle.blocking.proofs.ClaimExamples.{contents8, sheet8}
use Rattle.blocking.proofs.ClaimRefusals.{first_entry, one_full_contents, one_full_sheet, one_full_read, one_full_placed}
use Rattle.blocking.proofs.ClaimRefusals.{two_each, two_each_within}
use Rattle.blocking.specs.Claim.{in_set}
use Rattle.tables.specs.Tables.{entry_of}
use Rattle.tables.specs.Words.{fault_word}
use Rattle.tables.proofs.WordLaws.{fault_word_large}
use Rattle.door.proofs.DoorExamples.{filled, entry}
use Rattle.set_promise.specs.SetDoorClaim.{JudgedAt, SetDoorClaim}
use Rattle.set_promise.proofs.SetDoorExamples.{first-judged, second_judged, late_contents, late_sheet, late_judged}
use Rattle.set_promise.proofs.SetDoorExamples.{room_exact, right_claimed}

-- ── a set that passes ──

abbrev Claimed : ℕ → List ℕ → Type 0
Claimed r numbers' = SetDoorClaim one_full_sheet (2 ^ 63) (filled 8) r numbers'

pub good_not-passed : (numbers' : List ℕ) → Claimed 0 numbers' → ⊥
good_not-passed numbers' c =
    c.not_passed_open one_full_contents first-judged refl
    (right_claimed.passed_blocking one_full_contents first-judged refl)

pub good_other : (r : ℕ) → r ≢ 1 → (numbers' : List ℕ) → Claimed r numbers' → ⊥
good_other r ne numbers' c =
    ne (c.blocking_passed one_full_contents first-judged
    (right_claimed.passed_fits one_full_contents first-judged refl)
    (right_claimed.passed_blocking one_full_contents first-judged refl))

pub good_numbered : Claimed 1 (entry 1 []) → ⊥
unfolding entry_of little
good_numbered c = omega (arith, c.zero_unless_long one_full_contents first-judged (inr refl))

pub numbers_grown : Claimed 1 (entry 0 (165 ∷ [])) → ⊥
numbers_grown c = omega (arith, (c.later_numbers_kept one_full_contents first-judged).1)

judged_longer : JudgedAt one_full_sheet (2 ^ 63) (filled 9) one_full_contents
judged_longer =
    record {
      room = record { sheet_accepted = one_full_read; one_number = omega arith };
      judged = first-judged.judged;
    }

pub later_number_changed : SetDoorClaim one_full_sheet (2 ^ 63) (filled 9) 1 (entry 0 (0 ∷ [])) → ⊥
later_number_changed c = omega (arith, first_entry (c.later_numbers_kept one_full_contents judged_longer).0)

-- ── a set that does not ──

abbrev ClaimedBad : ℕ → List ℕ → Type 0
ClaimedBad r numbers' = SetDoorClaim one_full_sheet (2 ^ 62) (filled 8) r numbers'

pub bad_passed : (numbers' : List ℕ) → ClaimedBad 1 numbers' → ⊥
unfolding is_set
bad_passed numbers' c =
    omega (arith, (c.passed_blocking one_full_contents second_judged refl).heavier (λ j. j) one_full_placed)

pub bad_faulted : (f : Fault) (numbers' : List ℕ) → ClaimedBad (fault_word f) numbers' → ⊥
bad_faulted f numbers' c = elim (c.one_of_three one_full_contents second_judged) [
  | inl e ↦ omega (arith, e, fault_word_large f)
  | inr (inl e) ↦ omega (arith, e, fault_word_large f)
  | inr (inr e) ↦ omega (arith, e, fault_word_large f)
]

pub bad_numbered : ClaimedBad 0 (entry 1 []) → ⊥
unfolding entry_of little
bad_numbered c = omega (arith, c.zero_unless_long one_full_contents second_judged (inl refl))

-- ── long jobs ──

abbrev ClaimedLate : ℕ → List ℕ → Type 0
ClaimedLate r numbers' = SetDoorClaim late_sheet (2 ^ 62) (filled 8) r numbers'

pub late_other : (r : ℕ) → r ≢ 2 → (numbers' : List ℕ) → ClaimedLate r numbers' → ⊥
late_other r ne numbers' c =
    ne (c.long_given late_contents late_judged 2 (record { is_job = omega arith; longer = refl }))

pub late_passed : (numbers' : List ℕ) → ClaimedLate 1 numbers' → ⊥
late_passed numbers' c = omega (arith, c.passed_fits late_contents late_judged refl 1 (omega arith))

pub late_not_passed : (numbers' : List ℕ) → ClaimedLate 0 numbers' → ⊥
late_not_passed numbers' c = omega (arith, c.not_passed_fits late_contents late_judged refl 1 (omega arith))

pub second-long_named : ClaimedLate 2 (entry 2 []) → ⊥
unfolding entry_of little
second-long_named c = omega (arith, (c.long_right late_contents late_judged refl).lowest 1 (omega arith))

pub short_job_named : ClaimedLate 2 (entry 0 []) → ⊥
unfolding entry_of little
short_job_named c = clash (c.long_right late_contents late_judged refl).is_long.longer refl

-- ── a rival within T ──

module _ (set : ℕ) (judged : JudgedAt sheet8 set (filled 8) contents8) (numbers' : List ℕ) where
  pub rival_passed : SetDoorClaim sheet8 set (filled 8) 1 numbers' → ⊥
  rival_passed c = two_each_within (c.over_after_passed contents8 judged refl (λ j. j / 2) two_each.0)

  pub rival_long : SetDoorClaim sheet8 set (filled 8) 2 numbers' → ⊥
  rival_long c = two_each_within (c.over_after_long contents8 judged refl (λ j. j / 2) two_each.0)

-- ── faults ──

-- Below bench 2 the set of benches 1 and 2 names benches of the head.
lower_of_the_head : (u : ℕ) → u < 2 → in_set (2 ^ 62 + 2 ^ 61) u ≡ true → u < 2
lower_of_the_head u l p = l

module _ (r : ℕ) where
  abbrev ClaimedNoBench : List ℕ → Type 0
  ClaimedNoBench numbers' = SetDoorClaim one_full_sheet 0 (filled 8) r numbers'

  pub no_bench_taken : r ≡ 0 → (numbers' : List ℕ) → ClaimedNoBench numbers' → ⊥
  no_bench_taken e numbers' c = omega (arith, e, (c.empty_set one_full_contents room_exact (is_set-zero 64)).0)

  pub no_bench_written : ClaimedNoBench (entry 0 []) → ⊥
  no_bench_written c = omega (arith, first_entry (c.empty_set one_full_contents room_exact (is_set-zero 64)).1)

  abbrev ClaimedForeign : List ℕ → Type 0
  ClaimedForeign numbers' = SetDoorClaim one_full_sheet (2 ^ 62 + 2 ^ 61) (filled 8) r numbers'

  foreign_refused : {numbers' : List ℕ} → ClaimedForeign numbers'
      → (r ≡ fault_word (SetBench 2)) × (numbers' ≡ filled 8)
  unfolding is_set
  foreign_refused c = c.foreign_bench one_full_contents room_exact 2 refl (omega arith) lower_of_the_head

  pub foreign_taken : r ≡ 0 → (numbers' : List ℕ) → ClaimedForeign numbers' → ⊥
  foreign_taken e numbers' c = omega (arith, e, (foreign_refused c).0)

  pub other_bench_named : r ≡ fault_word (SetBench 1) → (numbers' : List ℕ) → ClaimedForeign numbers' → ⊥
  other_bench_named e numbers' c = omega (arith, e, (foreign_refused c).0)

  pub foreign_written : ClaimedForeign (entry 0 []) → ⊥
  foreign_written c = omega (arith, first_entry (foreign_refused c).1)

  abbrev ClaimedShort : List ℕ → Type 0
  ClaimedShort numbers' = SetDoorClaim one_full_sheet (2 ^ 63) (filled 7) r numbers'

  pub short_taken : r ≡ 1 → (numbers' : List ℕ) → ClaimedShort numbers' → ⊥
  short_taken e numbers' c = omega (arith, e, (c.table_short one_full_contents one_full_read (omega arith)).0)

  pub short_written : ClaimedShort (0 ∷ filled 6) → ⊥
  short_written c = omega (arith, first_entry (c.table_short one_full_contents one_full_read (omega arith)).1)

  abbrev ClaimedEmpty : List ℕ → Type 0
  ClaimedEmpty numbers' = SetDoorClaim [] (2 ^ 63) (filled 8) r numbers'

  pub empty_taken : r ≡ 1 → (numbers' : List ℕ) → ClaimedEmpty numbers' → ⊥
  unfolding read_sheet read_from
  empty_taken e numbers' c = omega (arith, e, (c.sheet_refused (Truncated 0) refl).0)

  pub empty_written : ClaimedEmpty (entry 0 []) → ⊥
  unfolding read_sheet read_from
  empty_written c = omega (arith, first_entry (c.sheet_refused (Truncated 0) refl).1)
