-- Wrong answers of the C door to who asks for the best target, each refused by one field of the claim. Every field has
-- one, but for one_case, start_planned and Vouched's tried_fit, which say nothing of the bytes.
-- The booked sheet of BestDoorExamples, whose best target is 5, with tables of exactly the needed size:
--     lower_target, higher_target     the target 4, which is refused, and 6, one above 5
--     other_plan              2 moves, where the planner makes 1
--     other_runs, target_and_runs_swapped     3 targets run; the target in the place of their number
--     largest_and_moves_swapped, fullest_has_less     the plan's numbers in another order; bench 1 as the fullest
--     load_not_its_own        a load that is not that of the places
--     tables_untouched        a plan that is not in the tables
--     other_word              the word of a long
--     numbers_grown           an answer's table with a byte more
-- The same with a longer table for the answer:
--     later_number_changed    a byte behind the five numbers
-- Two benches, three jobs of 5 on both; loads 10 and 5 are possible:
--     target_above_a_rival    the target 11
--     target_below_a_job      the target 4
--     plan_too_far            the largest load 19; 39 × 10 / 21 is less
--     no_run, too_many_runs   0 targets run; 32
--     target_too_wide         a target of 31 bits
-- The booked sheet with 39 bytes for the answer:
--     short_answered          and yet an answer
--     short_changes-places, short_changes-loads, short_changes_the_answer     refused, and a byte changed
-- The empty sheet:
--     empty-sheet-answered    and yet an answer
--     fault_changes-places, fault_changes-loads, fault_changes_the_answer     refused, and a byte changed
use Prim.Native.Nat.{ℕ, zero, suc, ◌/◌, ◌<◌}
use mathlib.Core.Path.{◌≡◌, refl, sym, ap, ◌∙◌}
use mathlib.Core.Logic.{inr}
use mathlib.Core.Bool.{true}
use mathlib.Core.List.{List, [], ◌∷◌, ◌++◌}
use native.Mathlib.Omega.{arith}
use lib.ListN.{drop}
use Rattle.bools.proofs.BoolLaws.{clash}
use Rattle.bits.specs.Bits.{is_set}
use Rattle.bits.specs.Little.{little}
use Rattle.fields.specs.declared.fault.Fault.TheVariants.{Truncated}
use Rattle.frame.specs.Reading.{read_from, read_sheet}
use Rattle.day.specs.Day.{Day, day_of, with_target}
use Rattle.demand.specs.Demand.{Assignment}
use Rattle.answers.specs.declared.answer.Answer.{Answer}
use Rattle.answers.specs.Answers.{is_plan}
use Rattle.answers.specs.BestAnswers.{plan_in}
use Rattle.argument.specs.Best.{Vouched}
use Rattle.blocking.proofs.ClaimRefusals.{first_entry, full_contents, full_sheet, full_read}
use Rattle.tables.specs.Tables.{entry_of}
use Rattle.door.specs.DoorClaim.{PlanInBytes}
use Rattle.door.proofs.DoorExamples.{filled, entry, pair}
use Rattle.best_promise.specs.BestDoorClaim.{NoRoomForBest, RoomForBest, best_in, BestDoorClaim}
use Rattle.best_promise.proofs.BestDoorExamples.{booked_contents, booked_bytes, booked_read, five}
use Rattle.best_promise.proofs.BestDoorExamples.{room_exact, right_claimed}

-- ── the booked sheet ──

abbrev Claimed : ℕ → List ℕ → List ℕ → List ℕ → Type 0
Claimed r places' loads' numbers' =
    BestDoorClaim booked_bytes (filled 16) (filled 16) (filled 40) r places' loads' numbers'

-- The right tables, with other numbers.
abbrev ClaimedNumbers : List ℕ → Type 0
ClaimedNumbers numbers' = Claimed 1 (pair 0 1) (pair 8 2) numbers'

abbrev day : Day
day = day_of booked_contents

-- What holds of the best target, and what the claim says of other numbers.
right : Vouched day (best_in (five 5 8 1 0 4))
right = right_claimed.vouched booked_contents room_exact

said : {numbers' : List ℕ} → ClaimedNumbers numbers' → Vouched day (best_in numbers')
said c = c.vouched booked_contents room_exact

planned : {places' loads' numbers' : List ℕ} → Claimed 1 places' loads' numbers'
    → PlanInBytes (with_target day (entry_of numbers' 0)) (filled 16) (filled 16) places' loads' (drop 8 numbers')
planned c = c.plan_right booked_contents room_exact

pub lower_target : ClaimedNumbers (five 4 8 1 0 4) → ⊥
unfolding entry_of little
lower_target c = clash (ap is_plan (said c).its_plan) (right.refused_below 4 refl)

pub higher_target : ClaimedNumbers (five 6 8 1 0 4) → ⊥
unfolding entry_of little
higher_target c = clash (ap is_plan right.its_plan) ((said c).refused_below 5 refl)

pub other_plan : ClaimedNumbers (five 5 8 2 0 4) → ⊥
unfolding entry_of little
other_plan c = omega (arith, ap (λ (a : Answer). (plan_in a).moves) (sym (said c).its_plan ∙ right.its_plan))

pub other_runs : ClaimedNumbers (five 5 8 1 0 3) → ⊥
unfolding entry_of little
other_runs c = omega (arith, (said c).runs_are ∙ sym right.runs_are)

pub target_and_runs_swapped : ClaimedNumbers (five 4 8 1 0 5) → ⊥
unfolding entry_of little
target_and_runs_swapped c = omega (arith, (said c).runs_are ∙ sym right.runs_are)

pub largest_and_moves_swapped : ClaimedNumbers (five 5 1 8 0 4) → ⊥
unfolding entry_of little
largest_and_moves_swapped c = omega (arith, (planned c).greatest 0 (omega arith))

pub fullest_has_less : ClaimedNumbers (five 5 8 1 1 4) → ⊥
unfolding entry_of little
fullest_has_less c = omega (arith, (planned c).fullest_load)

pub load_not_its_own : Claimed 1 (pair 0 1) (pair 8 3) (five 5 8 1 0 4) → ⊥
unfolding entry_of little
load_not_its_own c = omega (arith, (planned c).its_loads 1 (omega arith))

pub tables_untouched : Claimed 1 (filled 16) (filled 16) (five 5 8 1 0 4) → ⊥
unfolding entry_of little is_set
tables_untouched c = clash ((planned c).assignment.on_allowed 0 (omega arith)) refl

pub other_word : (places' loads' numbers' : List ℕ) → Claimed 2 places' loads' numbers' → ⊥
other_word places' loads' numbers' c = omega (arith, c.best_given booked_contents room_exact)

pub numbers_grown : ClaimedNumbers (five 5 8 1 0 4 ++ 165 ∷ []) → ⊥
numbers_grown c = omega (arith, (c.later_numbers_kept booked_contents room_exact).1)

-- A byte more than needed.
room_longer : RoomForBest booked_bytes (filled 16) (filled 16) (filled 41) booked_contents
room_longer = record {
  sheet_accepted = booked_read;
  place_to_a_job = omega arith;
  load_to_a_bench = omega arith;
  five_numbers = omega arith;
}

pub later_number_changed :
    BestDoorClaim booked_bytes (filled 16) (filled 16) (filled 41) 1
    (pair 0 1) (pair 8 2) (five 5 8 1 0 4 ++ 0 ∷ []) → ⊥
later_number_changed c = omega (arith, first_entry (c.later_numbers_kept booked_contents room_longer).0)

-- ── three jobs of 5 on both benches ──

full_room : RoomForBest full_sheet (filled 24) (filled 16) (filled 40) full_contents
full_room = record {
  sheet_accepted = full_read;
  place_to_a_job = omega arith;
  load_to_a_bench = omega arith;
  five_numbers = omega arith;
}

-- Jobs 0 and 1 on bench 0, job 2 on bench 1.
two_and_one : Assignment (day_of full_contents) (λ j. j / 2)
unfolding is_set
two_and_one = record { on_allowed = allowed }
  where
    allowed : (j : ℕ) → j < 3 → (day_of full_contents).allows j (j / 2) ≡ true
    allowed zero l = refl
    allowed (suc zero) l = refl
    allowed (suc (suc zero)) l = refl
    allowed (suc (suc (suc j))) l = absurd (omega arith)

module _ (places' loads' : List ℕ) where
  abbrev ClaimedFull : List ℕ → Type 0
  ClaimedFull numbers' =
      BestDoorClaim full_sheet (filled 24) (filled 16) (filled 40) 1 places' loads' numbers'

  pub target_above_a_rival : ClaimedFull (five 11 15 0 0 5) → ⊥
  unfolding entry_of little
  target_above_a_rival c = omega (arith, (c.vouched full_contents full_room).none_below (λ j. j / 2) two_and_one)

  pub target_below_a_job : ClaimedFull (five 4 15 0 0 5) → ⊥
  unfolding entry_of little
  target_below_a_job c = omega (arith, (c.vouched full_contents full_room).each_fits 0 (omega arith))

  pub plan_too_far : ClaimedFull (five 9 19 0 0 5) → ⊥
  unfolding entry_of little
  plan_too_far c = omega (arith, (c.vouched full_contents full_room).near_best (λ j. j / 2) two_and_one)

  pub no_run : ClaimedFull (five 9 15 0 0 0) → ⊥
  unfolding entry_of little
  no_run c = omega (arith, (c.vouched full_contents full_room).some_run)

  pub too_many_runs : ClaimedFull (five 9 15 0 0 32) → ⊥
  unfolding entry_of little
  too_many_runs c = omega (arith, (c.vouched full_contents full_room).few_runs)

  -- Bit 30 is in the fourth byte.
  pub target_too_wide :
      ClaimedFull (9 ∷ 0 ∷ 0 ∷ 64 ∷ 0 ∷ 0 ∷ 0 ∷ 0 ∷ entry 15 (entry 0 (entry 0 (entry 5 [])))) → ⊥
  unfolding entry_of little
  target_too_wide c = omega (arith, (c.vouched full_contents full_room).target_fits)

-- ── an answer's table that is too short ──

abbrev ClaimedShort : ℕ → List ℕ → List ℕ → List ℕ → Type 0
ClaimedShort r places' loads' numbers' =
    BestDoorClaim booked_bytes (filled 16) (filled 16) (filled 39) r places' loads' numbers'

answer_short : NoRoomForBest booked_contents (filled 16) (filled 16) (filled 39)
answer_short = inr (inr (omega arith))

pub short_answered : (places' loads' numbers' : List ℕ) → ClaimedShort 1 places' loads' numbers' → ⊥
short_answered places' loads' numbers' c = omega (arith, (c.tables_short booked_contents booked_read answer_short).0)

module _ (r : ℕ) where
  pub short_changes-places : ClaimedShort r (0 ∷ filled 15) (filled 16) (filled 39) → ⊥
  short_changes-places c =
      omega (arith, first_entry (c.tables_short booked_contents booked_read answer_short).1.both_tables.same_places)

  pub short_changes-loads : ClaimedShort r (filled 16) (0 ∷ filled 15) (filled 39) → ⊥
  short_changes-loads c =
      omega (arith, first_entry (c.tables_short booked_contents booked_read answer_short).1.both_tables.same_loads)

  pub short_changes_the_answer : ClaimedShort r (filled 16) (filled 16) (0 ∷ filled 38) → ⊥
  short_changes_the_answer c =
      omega (arith, first_entry (c.tables_short booked_contents booked_read answer_short).1.same_numbers)

-- ── the empty sheet ──

abbrev ClaimedEmpty : ℕ → List ℕ → List ℕ → List ℕ → Type 0
ClaimedEmpty r places' loads' numbers' =
    BestDoorClaim [] (filled 8) (filled 8) (filled 40) r places' loads' numbers'

pub empty-sheet-answered : (places' loads' numbers' : List ℕ) → ClaimedEmpty 1 places' loads' numbers' → ⊥
unfolding read_sheet read_from
empty-sheet-answered places' loads' numbers' c = omega (arith, (c.sheet_refused (Truncated 0) refl).0)

module _ (r : ℕ) where
  pub fault_changes-places : ClaimedEmpty r (0 ∷ filled 7) (filled 8) (filled 40) → ⊥
  unfolding read_sheet read_from
  fault_changes-places c = omega (arith, first_entry (c.sheet_refused (Truncated 0) refl).1.both_tables.same_places)

  pub fault_changes-loads : ClaimedEmpty r (filled 8) (0 ∷ filled 7) (filled 40) → ⊥
  unfolding read_sheet read_from
  fault_changes-loads c = omega (arith, first_entry (c.sheet_refused (Truncated 0) refl).1.both_tables.same_loads)

  pub fault_changes_the_answer : ClaimedEmpty r (filled 8) (filled 8) (0 ∷ filled 39) → ⊥
  unfolding read_sheet read_from
  fault_changes_the_answer c = omega (arith, first_entry (c.sheet_refused (Truncated 0) refl).1.same_numbers)
