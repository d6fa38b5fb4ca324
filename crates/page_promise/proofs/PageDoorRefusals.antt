-- Wrong answers of the C door to who has a page checked, each refused by one field of the claim. Every field has one,
-- but for one_case, which says nothing of the bytes. Sheets and pages are those of PageDoorExamples, with 8 bytes for
-- the answer.
-- {0}, {1}, both blocking:
--     good_other                        any word but 1
--     good_numbered                     1, and yet a number
--     numbers_grown, later_number_changed   a table with a byte more; a byte behind the number
-- {0}, {1}, of which {1} is not blocking:
--     open_passed, open_faulted         1, and the word of a fault
--     open_other                        any word but 0
--     blocking_named, absent_named      0 with set 0, and with set 2
--     other_named                       0 with any set but set 1
-- Pages for a sheet whose jobs fit on its benches:
--     later_named                       {0}, {1}, neither blocking: 0 with set 1
--     union_at_target                   {0}, {1}, which weigh twice T: 1
--     rival_passed                      1, for any page that has a byte
--     rival_long                        2, for any page
--     empty_page_other                  no bytes, and any word but 1
-- A sheet whose jobs 1 and 2 are long:
--     late_other                        {1}, and any word but 2
--     late_passed                       1, for any page
--     late_not_passed                   {1}, and 0
--     second-long_named, short_job_named    {1}, and 2 with job 2, and with job 0
-- Pages with a fault:
--     shared_passed, foreign_passed     {0}, {1}, {0}, and {0}, {1, 2}: passed, though each set is blocking
--     no_bench_taken, no_bench_written  {0}, no bench, and yet an answer; refused, and a byte changed
--     foreign_taken, foreign_written    {0}, {1, 2}
--     foreign_bench_named               number 17 with bench 2
--     shared_taken, shared_written      {0}, {1}, {0}
--     shared_judged                     the same, and any word of the three answers
--     earlier_set_named, seventeen_named    number 18 with set 0; number 17
-- Other calls:
--     short_taken, short_written        7 bytes for the answer
--     empty_taken, empty_written        the empty sheet
use Prim.Native.Nat.{ℕ, zero, suc, ◌/◌, ◌<◌}
use mathlib.Core.Path.{◌≡◌, refl}
use mathlib.Core.Logic.{◌≢◌, ◌⊎◌, inl, inr}
use mathlib.Core.Bool.{false}
use mathlib.Core.List.{List, [], ◌∷◌}
use native.Mathlib.Omega.{arith}
use lib.ListN.{length}
use Rattle.bools.proofs.BoolLaws.{clash}
use Rattle.bits.specs.Bits.{is_set}
use Rattle.bits.specs.Little.{little}
use Rattle.bits.proofs.SetBits.{is_set-zero}
use Rattle.sums.proofs.SearchLaws.{least-before}
use Rattle.fields.specs.declared.fault.Fault.{Fault}
use Rattle.fields.specs.declared.fault.Fault.TheVariants.{Truncated, SetBench, SharedBench}
use Rattle.frame.specs.Reading.{read_from, read_sheet}
use Rattle.day.specs.Day.{day_of, heavy}
use Rattle.demand.specs.Demand.{Placement}
use Rattle.blocking.proofs.ClaimExamples.{contents8, sheet8, read_8}
use Rattle.blocking.proofs.ClaimRefusals.{first_entry, full_contents, full_sheet, full_read}
use Rattle.blocking.proofs.ClaimRefusals.{one_full_contents, one_full_sheet, one_full_read, two_each, two_each_within}
use Rattle.set_check.specs.SetCheck.{foreign_in}
use Rattle.page_faults.specs.PageFaults.{unfit, overlap, shares_earlier, verdict_at, is_fault, first_faulty}
use Rattle.page_check.specs.PageClaim.{it_is_empty, it_names, Faultless, FirstOpen}
use Rattle.page_check.proofs.FaultFacts.{none_faultless}
use Rattle.tables.specs.Tables.{entries_of, entry_of, numbers_of}
use Rattle.tables.specs.Words.{fault_word}
use Rattle.tables.proofs.WordLaws.{fault_word_large}
use Rattle.door.proofs.DoorExamples.{filled, entry}
use Rattle.set_promise.specs.SetDoorClaim.{RoomForSet}
use Rattle.set_promise.proofs.SetDoorExamples.{room_exact, late_contents, late_sheet, late_read}
use Rattle.page_promise.specs.PageDoorClaim.{JudgedPageAt, PageDoorClaim}
use Rattle.page_promise.proofs.PageDoorExamples.{both_page, second_page, shared_page, no_bench_page, foreign_page}
use Rattle.page_promise.proofs.PageDoorExamples.{passed_claimed, not-passed-claimed}

-- ── pages without a fault ──

-- The sets before the first with a fault; of two benches.
before_faultless : (page : List ℕ) (n : ℕ) → first_faulty 2 page ≡ n → Faultless 2 page n
unfolding first_faulty
before_faultless page n e =
    none_faultless 2 page n
    (λ i l. least-before (length page) (λ k. is_fault (verdict_at 2 page k)) i (omega (arith, e)))

both_faultless : Faultless 2 (numbers_of both_page) 2
unfolding entries_of entry_of numbers_of little first_faulty unfit overlap shares_earlier foreign_in is_set
both_faultless = before_faultless (numbers_of both_page) 2 refl

full_room : RoomForSet full_sheet (filled 8) full_contents
full_room = record { sheet_accepted = full_read; one_number = omega arith }

room_8 : RoomForSet sheet8 (filled 8) contents8
room_8 = record { sheet_accepted = read_8; one_number = omega arith }

late_room : RoomForSet late_sheet (filled 8) late_contents
late_room = record { sheet_accepted = late_read; one_number = omega arith }

full_judged : JudgedPageAt full_sheet both_page (filled 8) full_contents
unfolding entries_of numbers_of
full_judged =
    record { room = full_room; judged = record { sheet_accepted = full_read; faultless = both_faultless } }

open_judged : JudgedPageAt one_full_sheet both_page (filled 8) one_full_contents
unfolding entries_of numbers_of
open_judged =
    record { room = room_exact; judged = record { sheet_accepted = one_full_read; faultless = both_faultless } }

judged_8 : JudgedPageAt sheet8 both_page (filled 8) contents8
unfolding entries_of numbers_of
judged_8 = record { room = room_8; judged = record { sheet_accepted = read_8; faultless = both_faultless } }

late_judged : JudgedPageAt late_sheet second_page (filled 8) late_contents
unfolding entries_of entry_of numbers_of little first_faulty unfit overlap shares_earlier foreign_in is_set
late_judged =
    record {
      room = late_room;
      judged = record {
        sheet_accepted = late_read;
        faultless = before_faultless (numbers_of second_page) 1 refl;
      };
    }

-- ── each set is blocking ──

abbrev Claimed : ℕ → List ℕ → Type 0
Claimed r numbers' = PageDoorClaim full_sheet both_page (filled 8) r numbers'

pub good_other : (r : ℕ) → r ≢ 1 → (numbers' : List ℕ) → Claimed r numbers' → ⊥
good_other r ne numbers' c =
    ne (c.good_passed full_contents full_room (passed_claimed.passed_fits full_contents full_room refl)
    (passed_claimed.passed_good full_contents full_room refl))

pub good_numbered : Claimed 1 (entry 1 []) → ⊥
unfolding entry_of little
good_numbered c = omega (arith, c.zero_after_passed full_contents full_room refl)

pub numbers_grown : Claimed 1 (entry 0 (165 ∷ [])) → ⊥
numbers_grown c = omega (arith, (c.later_numbers_kept full_contents full_judged).1)

judged_longer : JudgedPageAt full_sheet both_page (filled 9) full_contents
judged_longer =
    record {
      room = record { sheet_accepted = full_read; one_number = omega arith };
      judged = full_judged.judged;
    }

pub later_number_changed : PageDoorClaim full_sheet both_page (filled 9) 1 (entry 0 (0 ∷ [])) → ⊥
later_number_changed c = omega (arith, first_entry (c.later_numbers_kept full_contents judged_longer).0)

-- ── a set that is not ──

abbrev ClaimedOpen : ℕ → List ℕ → Type 0
ClaimedOpen r numbers' = PageDoorClaim one_full_sheet both_page (filled 8) r numbers'

first_open : FirstOpen (day_of one_full_contents) (numbers_of both_page) 1
unfolding entry_of little
first_open = not-passed-claimed.named_is_first one_full_contents open_judged refl

pub open_passed : (numbers' : List ℕ) → ClaimedOpen 1 numbers' → ⊥
unfolding entries_of numbers_of
open_passed numbers' c =
    first_open.not_blocking ((c.passed_good one_full_contents room_exact refl).each_blocking 1 (omega arith))

pub open_faulted : (f : Fault) (numbers' : List ℕ) → ClaimedOpen (fault_word f) numbers' → ⊥
open_faulted f numbers' c = elim (c.one_of_three one_full_contents open_judged) [
  | inl e ↦ omega (arith, e, fault_word_large f)
  | inr (inl e) ↦ omega (arith, e, fault_word_large f)
  | inr (inr e) ↦ omega (arith, e, fault_word_large f)
]

open_named : {r : ℕ} {numbers' : List ℕ} → ClaimedOpen r numbers' → (r ≡ 0) × (entry_of numbers' 0 ≡ 1)
open_named c =
    c.first_is_named one_full_contents open_judged
    (not-passed-claimed.not_passed_fits one_full_contents open_judged refl) 1 first_open

pub open_other : (r : ℕ) → r ≢ 0 → (numbers' : List ℕ) → ClaimedOpen r numbers' → ⊥
open_other r ne numbers' c = ne (open_named c).0

pub other_named : (numbers' : List ℕ) → entry_of numbers' 0 ≢ 1 → ClaimedOpen 0 numbers' → ⊥
other_named numbers' ne c = ne (open_named c).1

pub blocking_named : ClaimedOpen 0 (entry 0 []) → ⊥
unfolding entry_of little
blocking_named c =
    (c.named_is_first one_full_contents open_judged refl).not_blocking (first_open.earlier_blocking 0 (omega arith))

pub absent_named : ClaimedOpen 0 (entry 2 []) → ⊥
unfolding entries_of entry_of numbers_of little
absent_named c = omega (arith, (c.named_is_first one_full_contents open_judged refl).on_the_page)

-- ── a rival within T ──

each_of_2 : (j : ℕ) → j < 4 → (day_of contents8).minutes j ≡ 2
each_of_2 zero l = refl
each_of_2 (suc zero) l = refl
each_of_2 (suc (suc zero)) l = refl
each_of_2 (suc (suc (suc zero))) l = refl
each_of_2 (suc (suc (suc (suc j)))) l = absurd (omega arith)

-- 7 × 2 is at most 4 × 4.
all_light : (j : ℕ) → j < 4 → heavy (day_of contents8) j ≡ false
all_light j l = rw (each_of_2 j l) refl

placed_8 : Placement (day_of contents8) (λ j. j)
placed_8 =
    record {
      on_allowed = λ j l is-heavy. clash is-heavy (all_light j l);
      one_to_a_bench = λ e f le lf he hf same. clash he (all_light e le);
    }

pub later_named : PageDoorClaim sheet8 both_page (filled 8) 0 (entry 1 []) → ⊥
unfolding entries_of entry_of numbers_of little is_set
later_named c =
    let early = (c.named_is_first contents8 judged_8 refl).earlier_blocking 0 (omega arith) in
    omega (arith, early.heavier (λ j. j) placed_8)

pub union_at_target : (numbers' : List ℕ) → PageDoorClaim sheet8 both_page (filled 8) 1 numbers' → ⊥
unfolding entries_of entry_of numbers_of little is_set
union_at_target numbers' c =
    omega (arith, (c.union_blocks contents8 room_8 refl (omega arith)).heavier (λ j. j) placed_8)

module _ (page numbers' : List ℕ) where
  pub rival_passed : 0 < length page → PageDoorClaim sheet8 page (filled 8) 1 numbers' → ⊥
  rival_passed some c =
      two_each_within (c.over_after_passed contents8 room_8 refl some (λ j. j / 2) two_each.0)

  pub rival_long : PageDoorClaim sheet8 page (filled 8) 2 numbers' → ⊥
  rival_long c = two_each_within (c.over_after_long contents8 room_8 refl (λ j. j / 2) two_each.0)

pub empty_page_other : (r : ℕ) → r ≢ 1 → (numbers' : List ℕ) → PageDoorClaim sheet8 [] (filled 8) r numbers' → ⊥
empty_page_other r ne numbers' c =
    ne (c.empty_page contents8 room_8 (λ j l. omega (arith, each_of_2 j l)) refl)

-- ── long jobs ──

abbrev ClaimedLate : ℕ → List ℕ → Type 0
ClaimedLate r numbers' = PageDoorClaim late_sheet second_page (filled 8) r numbers'

pub late_other : (r : ℕ) → r ≢ 2 → (numbers' : List ℕ) → ClaimedLate r numbers' → ⊥
late_other r ne numbers' c =
    ne (c.long_given late_contents late_judged 2 (record { is_job = omega arith; longer = refl }))

pub late_passed : (page numbers' : List ℕ) → PageDoorClaim late_sheet page (filled 8) 1 numbers' → ⊥
late_passed page numbers' c = omega (arith, c.passed_fits late_contents late_room refl 1 (omega arith))

pub late_not_passed : (numbers' : List ℕ) → ClaimedLate 0 numbers' → ⊥
late_not_passed numbers' c = omega (arith, c.not_passed_fits late_contents late_judged refl 1 (omega arith))

pub second-long_named : ClaimedLate 2 (entry 2 []) → ⊥
unfolding entry_of little
second-long_named c = omega (arith, (c.long_right late_contents late_judged refl).lowest 1 (omega arith))

pub short_job_named : ClaimedLate 2 (entry 0 []) → ⊥
unfolding entry_of little
short_job_named c = clash (c.long_right late_contents late_judged refl).is_long.longer refl

-- ── faults ──

pub shared_passed : (numbers' : List ℕ) → PageDoorClaim full_sheet shared_page (filled 8) 1 numbers' → ⊥
unfolding entries_of entry_of numbers_of little is_set
shared_passed numbers' c =
    (c.passed_good full_contents full_room refl).none_shared 0 2 (omega arith) (omega arith) 0 refl refl

pub foreign_passed : (numbers' : List ℕ) → PageDoorClaim full_sheet foreign_page (filled 8) 1 numbers' → ⊥
unfolding entries_of entry_of numbers_of little is_set
foreign_passed numbers' c =
    omega (arith, (c.passed_good full_contents full_room refl).of_the_head 1 (omega arith) 2 refl)

module _ (r : ℕ) where
  abbrev ClaimedNoBench : List ℕ → Type 0
  ClaimedNoBench numbers' = PageDoorClaim one_full_sheet no_bench_page (filled 8) r numbers'

  no_bench_refused : {numbers' : List ℕ} → ClaimedNoBench numbers'
      → (r ≡ fault_word (SetBench 1)) × (numbers' ≡ filled 8)
  unfolding entries_of entry_of numbers_of little first_faulty unfit overlap shares_earlier foreign_in is_set
  no_bench_refused c =
      c.improper_set one_full_contents room_exact 1 (omega arith) (before_faultless (numbers_of no_bench_page) 1 refl)
      (it_is_empty (is_set-zero 64))

  pub no_bench_taken : r ≡ 0 → (numbers' : List ℕ) → ClaimedNoBench numbers' → ⊥
  no_bench_taken e numbers' c = omega (arith, e, (no_bench_refused c).0)

  pub no_bench_written : ClaimedNoBench (entry 1 []) → ⊥
  no_bench_written c = omega (arith, first_entry (no_bench_refused c).1)

  abbrev ClaimedForeign : List ℕ → Type 0
  ClaimedForeign numbers' = PageDoorClaim one_full_sheet foreign_page (filled 8) r numbers'

  foreign_refused : {numbers' : List ℕ} → ClaimedForeign numbers'
      → (r ≡ fault_word (SetBench 1)) × (numbers' ≡ filled 8)
  unfolding entries_of entry_of numbers_of little first_faulty unfit overlap shares_earlier foreign_in is_set
  foreign_refused c =
      c.improper_set one_full_contents room_exact 1 (omega arith) (before_faultless (numbers_of foreign_page) 1 refl)
      (it_names 2 refl (omega arith))

  pub foreign_taken : r ≡ 0 → (numbers' : List ℕ) → ClaimedForeign numbers' → ⊥
  foreign_taken e numbers' c = omega (arith, e, (foreign_refused c).0)

  pub foreign_bench_named : r ≡ fault_word (SetBench 2) → (numbers' : List ℕ) → ClaimedForeign numbers' → ⊥
  foreign_bench_named e numbers' c = omega (arith, e, (foreign_refused c).0)

  pub foreign_written : ClaimedForeign (entry 1 []) → ⊥
  foreign_written c = omega (arith, first_entry (foreign_refused c).1)

  abbrev ClaimedShared : List ℕ → Type 0
  ClaimedShared numbers' = PageDoorClaim one_full_sheet shared_page (filled 8) r numbers'

  shared_refused : {numbers' : List ℕ} → ClaimedShared numbers'
      → (r ≡ fault_word (SharedBench 2)) × (numbers' ≡ filled 8)
  unfolding entries_of entry_of numbers_of little first_faulty unfit overlap shares_earlier foreign_in is_set
  shared_refused c =
      c.shared_bench one_full_contents room_exact 2 (omega arith) (before_faultless (numbers_of shared_page) 2 refl)
      (both_faultless.each_proper 0 (omega arith))
      (record { earlier = 0; before = omega arith; bench = 0; in_earlier = refl; in_this = refl })

  pub shared_taken : r ≡ 0 → (numbers' : List ℕ) → ClaimedShared numbers' → ⊥
  shared_taken e numbers' c = omega (arith, e, (shared_refused c).0)

  pub shared_judged : (r ≡ 0) ⊎ ((r ≡ 1) ⊎ (r ≡ 2)) → (numbers' : List ℕ) → ClaimedShared numbers' → ⊥
  unfolding entries_of entry_of numbers_of little is_set
  shared_judged three numbers' c =
      (c.three_judged one_full_contents room_exact three).judged.faultless.none_shared 0 2 (omega arith) (omega arith) 0
      refl refl

  pub earlier_set_named : r ≡ fault_word (SharedBench 0) → (numbers' : List ℕ) → ClaimedShared numbers' → ⊥
  earlier_set_named e numbers' c = omega (arith, e, (shared_refused c).0)

  pub seventeen_named : (i : ℕ) → r ≡ fault_word (SetBench i) → (numbers' : List ℕ) → ClaimedShared numbers' → ⊥
  seventeen_named i e numbers' c = omega (arith, e, (shared_refused c).0)

  pub shared_written : ClaimedShared (entry 2 []) → ⊥
  shared_written c = omega (arith, first_entry (shared_refused c).1)

  abbrev ClaimedShort : List ℕ → Type 0
  ClaimedShort numbers' = PageDoorClaim one_full_sheet both_page (filled 7) r numbers'

  pub short_taken : r ≡ 0 → (numbers' : List ℕ) → ClaimedShort numbers' → ⊥
  short_taken e numbers' c = omega (arith, e, (c.table_short one_full_contents one_full_read (omega arith)).0)

  pub short_written : ClaimedShort (0 ∷ filled 6) → ⊥
  short_written c = omega (arith, first_entry (c.table_short one_full_contents one_full_read (omega arith)).1)

  abbrev ClaimedEmpty : List ℕ → Type 0
  ClaimedEmpty numbers' = PageDoorClaim [] both_page (filled 8) r numbers'

  pub empty_taken : r ≡ 1 → (numbers' : List ℕ) → ClaimedEmpty numbers' → ⊥
  unfolding read_sheet read_from
  empty_taken e numbers' c = omega (arith, e, (c.sheet_refused (Truncated 0) refl).0)

  pub empty_written : ClaimedEmpty (entry 0 []) → ⊥
  unfolding read_sheet read_from
  empty_written c = omega (arith, first_entry (c.sheet_refused (Truncated 0) refl).1)
