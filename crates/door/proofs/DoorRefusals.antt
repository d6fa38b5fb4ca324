-- Wrong answers of the C door that its claim refuses, each by one of its fields. Every field has one, but for one_case,
-- which says nothing of the answer; so none can lose its meaning unnoticed.
-- Example 8 of document 01 (two benches, four jobs of 2 on both, T = 4), with tables of exactly the needed size:
--     right_claimed           the right word and bytes are claimed
--     load_not_its_own        a load that is not that of the places
--     load_above_bound        every job on its lowest bench: loads 8 and 0
--     largest_too_small, largest_too_large    a largest load that is not the greatest of them
--     fullest_has_less, fullest_lacking       as the fullest bench 1, which has less, and bench 2, which the head lacks
--     higher_of_a_tie         loads 4 and 4, and bench 1 as the fullest
--     numbers_in_another_order    the moves behind the fullest bench
--     too_many_moves          9 moves; 2 benches × 4 light jobs are 8
--     tables_untouched        a plan that is not in the tables
--     long_for_none_long, none_for_a_rival, other_word    another answer
--     long_not_over, none_not_over    the rival has no bench above T
--     places-grown, loads-grown, numbers_grown    a table with a byte more
-- The same with longer tables:
--     later_place_changed, later_load_changed, later_number_changed   a byte behind what is put
-- One bench, T = 4, jobs of 5 and 6 on it:
--     only_long               no word but that of long is claimed
--     plan_with_a_long_job, none_with_a_long_job      the word of another answer
--     second-long_named       long with job 1
--     long_with_a_second_number, long_with_a_fullest_bench    long with another second or third entry than 0
--     long_changes-places, long_changes-loads     long, and a byte of a table changed
-- Two benches, three jobs of 5 on both, T = 8 (example 4):
--     set_of_no_bench, set_past_the_head, set_too_wide    none with the empty set, with bench 2, with a bit too many
--     none_with_a_move        none after a move, where no light job has a choice
--     none_with_a_fullest_bench   none with another third entry than 0
--     none_changes-places, none_changes-loads     none, and a byte of a table changed
-- Two benches, T = 5, of which one is full:
--     set_that_fits           none with the other, whose jobs do not weigh more than T
-- Example 8 with 23 bytes for the answer:
--     short_answer_planned    and yet a plan
--     short_changes-places, short_changes-loads, short_changes_the_answer     refused, and a byte changed
-- The empty sheet:
--     empty-sheet-planned     and yet a plan
--     fault_changes-places, fault_changes-loads, fault_changes_the_answer     refused, and a byte changed
use Prim.Native.Nat.{ℕ, zero, suc, ◌/◌, ◌≤◌, ◌<◌}
use mathlib.Core.Path.{◌≡◌, refl, sym, ap}
use mathlib.Core.Logic.{inl, inr}
use mathlib.Core.List.{List, [], ◌∷◌, ◌++◌}
use native.Mathlib.Omega.{arith}
use Rattle.bools.proofs.BoolLaws.{clash}
use Rattle.bits.specs.Bits.{is_set}
use Rattle.bits.specs.Little.{little, little_of, little_all}
use Rattle.fields.specs.declared.fault.Fault.TheVariants.{Truncated}
use Rattle.frame.specs.Reading.{read_from, read_sheet}
use Rattle.day.specs.Day.{day_of}
use Rattle.answers.specs.Answers.{Reply}
use Rattle.blocking.proofs.ClaimExamples.{contents8, sheet8, read_8}
use Rattle.blocking.proofs.ClaimRefusals.{first_entry, two_each, two_each_within}
use Rattle.blocking.proofs.ClaimRefusals.{long_contents, long_sheet, long_read, full_contents, full_sheet, full_read}
use Rattle.blocking.proofs.ClaimRefusals.{one_full_contents, one_full_sheet, one_full_read, one_full_placed}
use Rattle.tables.specs.Tables.{entry_of, put_numbers}
use Rattle.door.specs.DoorClaim.{NoRoomFor, RoomFor, PlanInBytes, DoorClaim}
use Rattle.door.specs.PlanDoor.{plan_word, answer_numbers}
use Rattle.door.proofs.DoorDemand.{door_claim}
use Rattle.door.proofs.DoorExamples.{filled, entry, pair, places_bytes, loads_bytes, numbers_bytes, room_exact}
use Rattle.door.proofs.DoorExamples.{answer_8}

-- Three numbers, as an answer's entries.
abbrev triple : ℕ → ℕ → ℕ → List ℕ
triple a b v = entry a (pair b v)

-- ── example 8 ──

abbrev Claimed : ℕ → List ℕ → List ℕ → List ℕ → Type 0
Claimed r places' loads' numbers' = DoorClaim sheet8 (filled 32) (filled 16) (filled 24) r places' loads' numbers'

pub right_claimed : Claimed 1 places_bytes loads_bytes numbers_bytes
unfolding put_numbers little_of little_all
right_claimed =
    door_claim sheet8 (filled 32) (filled 16) (filled 24)
    (record {
      word = sym (ap (λ (a : Reply). plan_word a.answer) answer_8);
      new_places = sym (ap (λ (a : Reply). put_numbers a.places (filled 32)) answer_8);
      new_loads = sym (ap (λ (a : Reply). put_numbers a.loads (filled 16)) answer_8);
      new_numbers = sym (ap (λ (a : Reply). put_numbers (answer_numbers a.answer) (filled 24)) answer_8);
    })

-- What the claim says of these bytes as a plan.
planned : {places' loads' numbers' : List ℕ} → Claimed 1 places' loads' numbers'
    → PlanInBytes (day_of contents8) (filled 32) (filled 16) places' loads' numbers'
planned c = c.plan_right contents8 room_exact refl

pub load_not_its_own : Claimed 1 places_bytes (pair 6 3) numbers_bytes → ⊥
unfolding entry_of little
load_not_its_own c = omega (arith, (planned c).its_loads 1 (omega arith))

pub load_above_bound : Claimed 1 (pair 0 0 ++ pair 0 0) (pair 8 0) (triple 8 0 0) → ⊥
unfolding entry_of little
load_above_bound c = clash ((planned c).within_bound 0 (omega arith)) refl

pub largest_too_small : Claimed 1 places_bytes loads_bytes (triple 5 1 0) → ⊥
unfolding entry_of little
largest_too_small c = omega (arith, (planned c).greatest 0 (omega arith))

pub largest_too_large : Claimed 1 places_bytes loads_bytes (triple 7 1 0) → ⊥
unfolding entry_of little
largest_too_large c = let (v, l, e) = (planned c).one_of_them in omega (arith, e, at_most v l)
  where
    at_most : (v : ℕ) → v < 2 → entry_of loads_bytes v ≤ 6
    at_most zero l = omega arith
    at_most (suc zero) l = omega arith
    at_most (suc (suc v)) l = absurd (omega arith)

pub fullest_has_less : Claimed 1 places_bytes loads_bytes (triple 6 1 1) → ⊥
unfolding entry_of little
fullest_has_less c = omega (arith, (planned c).fullest_load)

pub fullest_lacking : Claimed 1 places_bytes loads_bytes (triple 6 1 2) → ⊥
unfolding entry_of little
fullest_lacking c = omega (arith, (planned c).fullest_bench)

pub higher_of_a_tie : Claimed 1 (pair 1 1 ++ pair 0 0) (pair 4 4) (triple 4 2 1) → ⊥
unfolding entry_of little
higher_of_a_tie c = omega (arith, (planned c).lower_less 0 (omega arith))

-- Moves before the fullest bench: 1 move, and bench 0.
pub numbers_in_another_order : Claimed 1 places_bytes loads_bytes (triple 6 0 1) → ⊥
unfolding entry_of little
numbers_in_another_order c = omega (arith, (planned c).fullest_load)

pub too_many_moves : Claimed 1 places_bytes loads_bytes (triple 6 9 0) → ⊥
unfolding entry_of little is_set
too_many_moves c = omega (arith, (planned c).few_moves)

pub tables_untouched : Claimed 1 (filled 32) (filled 16) numbers_bytes → ⊥
unfolding entry_of little is_set
tables_untouched c = clash ((planned c).assignment.on_allowed 0 (omega arith)) refl

pub long_for_none_long : Claimed 2 (filled 32) (filled 16) (triple 0 0 0) → ⊥
unfolding entry_of little
long_for_none_long c = clash (c.long_right contents8 room_exact refl).0.is_long.longer refl

pub none_for_a_rival : (numbers' : List ℕ) → Claimed 3 (filled 32) (filled 16) numbers' → ⊥
none_for_a_rival numbers' c =
    omega (arith, c.rival_planned contents8 room_exact (λ j. j / 2) two_each.0 two_each.1)

pub other_word : Claimed 0 (filled 32) (filled 16) (filled 24) → ⊥
other_word c = elim (c.one_of_three contents8 room_exact) [
  | inl e ↦ omega arith
  | inr (inl e) ↦ omega arith
  | inr (inr e) ↦ omega arith
]

pub long_not_over : (places' loads' numbers' : List ℕ) → Claimed 2 places' loads' numbers' → ⊥
long_not_over places' loads' numbers' c =
    two_each_within (c.over_after_long contents8 room_exact refl (λ j. j / 2) two_each.0)

pub none_not_over : (places' loads' numbers' : List ℕ) → Claimed 3 places' loads' numbers' → ⊥
none_not_over places' loads' numbers' c =
    two_each_within (c.over_after_none contents8 room_exact refl (λ j. j / 2) two_each.0)

-- One byte more, after a plan's.
abbrev then : List ℕ → ℕ → List ℕ
then xs b = xs ++ b ∷ []

pub places-grown : Claimed 1 (then places_bytes 165) loads_bytes numbers_bytes → ⊥
places-grown c = omega (arith, (planned c).as_many_places)

pub loads-grown : Claimed 1 places_bytes (then loads_bytes 165) numbers_bytes → ⊥
loads-grown c = omega (arith, (planned c).as_many_loads)

pub numbers_grown : Claimed 1 places_bytes loads_bytes (then numbers_bytes 165) → ⊥
numbers_grown c = omega (arith, (c.later_numbers_kept contents8 room_exact).1)

-- ── longer tables ──

-- Each table has a byte more than needed.
room_longer : RoomFor sheet8 (filled 33) (filled 17) (filled 25) contents8
room_longer = record {
  sheet_accepted = read_8;
  place_to_a_job = omega arith;
  load_to_a_bench = omega arith;
  three_numbers = omega arith;
}

abbrev ClaimedLonger : List ℕ → List ℕ → List ℕ → Type 0
ClaimedLonger places' loads' numbers' = DoorClaim sheet8 (filled 33) (filled 17) (filled 25) 1 places' loads' numbers'

pub later_place_changed : ClaimedLonger (then places_bytes 0) (then loads_bytes 165) (then numbers_bytes 165) → ⊥
later_place_changed c = omega (arith, first_entry (c.plan_right contents8 room_longer refl).later_places_kept)

pub later_load_changed : ClaimedLonger (then places_bytes 165) (then loads_bytes 0) (then numbers_bytes 165) → ⊥
later_load_changed c = omega (arith, first_entry (c.plan_right contents8 room_longer refl).later_loads_kept)

pub later_number_changed : ClaimedLonger (then places_bytes 165) (then loads_bytes 165) (then numbers_bytes 0) → ⊥
later_number_changed c = omega (arith, first_entry (c.later_numbers_kept contents8 room_longer).0)

-- ── two long jobs ──

long_room : RoomFor long_sheet (filled 16) (filled 8) (filled 24) long_contents
long_room = record {
  sheet_accepted = long_read;
  place_to_a_job = omega arith;
  load_to_a_bench = omega arith;
  three_numbers = omega arith;
}

abbrev ClaimedLong : ℕ → List ℕ → List ℕ → List ℕ → Type 0
ClaimedLong r places' loads' numbers' =
    DoorClaim long_sheet (filled 16) (filled 8) (filled 24) r places' loads' numbers'

pub only_long : (r : ℕ) (places' loads' numbers' : List ℕ) → ClaimedLong r places' loads' numbers' → r ≡ 2
only_long r places' loads' numbers' c =
    c.long_given long_contents long_room 1 (record { is_job = omega arith; longer = refl })

pub plan_with_a_long_job : (places' loads' numbers' : List ℕ) → ClaimedLong 1 places' loads' numbers' → ⊥
plan_with_a_long_job places' loads' numbers' c = omega (arith, c.plan_fits long_contents long_room refl 0 (omega arith))

pub none_with_a_long_job : (places' loads' numbers' : List ℕ) → ClaimedLong 3 places' loads' numbers' → ⊥
none_with_a_long_job places' loads' numbers' c = omega (arith, c.none_fits long_contents long_room refl 0 (omega arith))

pub second-long_named : ClaimedLong 2 (filled 16) (filled 8) (triple 1 0 0) → ⊥
unfolding entry_of little
second-long_named c = omega (arith, (c.long_right long_contents long_room refl).0.lowest 0 (omega arith))

pub long_with_a_second_number : ClaimedLong 2 (filled 16) (filled 8) (triple 0 1 0) → ⊥
unfolding entry_of little
long_with_a_second_number c = omega (arith, (c.long_right long_contents long_room refl).1)

pub long_with_a_fullest_bench : ClaimedLong 2 (filled 16) (filled 8) (triple 0 0 1) → ⊥
unfolding entry_of little
long_with_a_fullest_bench c = omega (arith, c.no_fullest long_contents long_room (inl refl))

pub long_changes-places : (numbers' : List ℕ) → ClaimedLong 2 (0 ∷ filled 15) (filled 8) numbers' → ⊥
long_changes-places numbers' c = omega (arith, first_entry (c.long_right long_contents long_room refl).2.same_places)

pub long_changes-loads : (numbers' : List ℕ) → ClaimedLong 2 (filled 16) (0 ∷ filled 7) numbers' → ⊥
long_changes-loads numbers' c = omega (arith, first_entry (c.long_right long_contents long_room refl).2.same_loads)

-- ── sets that a none may not name ──

full_room : RoomFor full_sheet (filled 24) (filled 16) (filled 24) full_contents
full_room = record {
  sheet_accepted = full_read;
  place_to_a_job = omega arith;
  load_to_a_bench = omega arith;
  three_numbers = omega arith;
}

abbrev ClaimedNone : List ℕ → List ℕ → List ℕ → Type 0
ClaimedNone places' loads' numbers' =
    DoorClaim full_sheet (filled 24) (filled 16) (filled 24) 3 places' loads' numbers'

-- A set, by the byte of its highest bits: 128 is bench 0, 64 bench 1, 32 bench 2. Then the moves, and 0.
abbrev set_and_moves : ℕ → ℕ → List ℕ
set_and_moves high moves = 0 ∷ 0 ∷ 0 ∷ 0 ∷ 0 ∷ 0 ∷ 0 ∷ high ∷ pair moves 0

pub set_of_no_bench : ClaimedNone (filled 24) (filled 16) (set_and_moves 0 0) → ⊥
unfolding entry_of little is_set
set_of_no_bench c = omega (arith, (c.none_right full_contents full_room refl).0.blocking.some_bench)

pub set_past_the_head : ClaimedNone (filled 24) (filled 16) (set_and_moves 32 0) → ⊥
unfolding entry_of little is_set
set_past_the_head c = omega (arith, (c.none_right full_contents full_room refl).0.of_the_head 2 refl)

-- The claim is of any list of numbers: 256 is no byte.
pub set_too_wide : ClaimedNone (filled 24) (filled 16) (set_and_moves 256 0) → ⊥
unfolding entry_of little
set_too_wide c = omega (arith, (c.none_right full_contents full_room refl).0.of_64_bits)

-- All three jobs are heavy.
pub none_with_a_move : ClaimedNone (filled 24) (filled 16) (set_and_moves 192 1) → ⊥
unfolding entry_of little is_set
none_with_a_move c = omega (arith, (c.none_right full_contents full_room refl).0.few_moves)

-- The set of both benches, no move, and bench 1.
pub none_with_a_fullest_bench : ClaimedNone (filled 24) (filled 16) (0 ∷ 0 ∷ 0 ∷ 0 ∷ 0 ∷ 0 ∷ 0 ∷ 192 ∷ pair 0 1) → ⊥
unfolding entry_of little
none_with_a_fullest_bench c = omega (arith, c.no_fullest full_contents full_room (inr refl))

pub none_changes-places : (numbers' : List ℕ) → ClaimedNone (0 ∷ filled 23) (filled 16) numbers' → ⊥
none_changes-places numbers' c = omega (arith, first_entry (c.none_right full_contents full_room refl).1.same_places)

pub none_changes-loads : (numbers' : List ℕ) → ClaimedNone (filled 24) (0 ∷ filled 15) numbers' → ⊥
none_changes-loads numbers' c = omega (arith, first_entry (c.none_right full_contents full_room refl).1.same_loads)

-- A heavy job of 4 on each bench, and light ones of 2 and 1 on bench 0: bench 1 alone carries 4.
one_full_room : RoomFor one_full_sheet (filled 32) (filled 16) (filled 24) one_full_contents
one_full_room = record {
  sheet_accepted = one_full_read;
  place_to_a_job = omega arith;
  load_to_a_bench = omega arith;
  three_numbers = omega arith;
}

pub set_that_fits :
    DoorClaim one_full_sheet (filled 32) (filled 16) (filled 24) 3
    (filled 32) (filled 16) (set_and_moves 64 0) → ⊥
unfolding entry_of little is_set
set_that_fits c =
    omega (arith, (c.none_right one_full_contents one_full_room refl).0.blocking.heavier (λ j. j) one_full_placed)

-- ── an answer's table that is too short ──

abbrev ClaimedShort : ℕ → List ℕ → List ℕ → List ℕ → Type 0
ClaimedShort r places' loads' numbers' = DoorClaim sheet8 (filled 32) (filled 16) (filled 23) r places' loads' numbers'

answer_short : NoRoomFor contents8 (filled 32) (filled 16) (filled 23)
answer_short = inr (inr (omega arith))

pub short_answer_planned : (places' loads' numbers' : List ℕ) → ClaimedShort 1 places' loads' numbers' → ⊥
short_answer_planned places' loads' numbers' c = omega (arith, (c.tables_short contents8 read_8 answer_short).0)

module _ (r : ℕ) where
  pub short_changes-places : ClaimedShort r (0 ∷ filled 31) (filled 16) (filled 23) → ⊥
  short_changes-places c =
      omega (arith, first_entry (c.tables_short contents8 read_8 answer_short).1.both_tables.same_places)

  pub short_changes-loads : ClaimedShort r (filled 32) (0 ∷ filled 15) (filled 23) → ⊥
  short_changes-loads c =
      omega (arith, first_entry (c.tables_short contents8 read_8 answer_short).1.both_tables.same_loads)

  pub short_changes_the_answer : ClaimedShort r (filled 32) (filled 16) (0 ∷ filled 22) → ⊥
  short_changes_the_answer c =
      omega (arith, first_entry (c.tables_short contents8 read_8 answer_short).1.same_numbers)

-- ── the empty sheet ──

abbrev ClaimedEmpty : ℕ → List ℕ → List ℕ → List ℕ → Type 0
ClaimedEmpty r places' loads' numbers' = DoorClaim [] (filled 8) (filled 8) (filled 24) r places' loads' numbers'

pub empty-sheet-planned : (places' loads' numbers' : List ℕ) → ClaimedEmpty 1 places' loads' numbers' → ⊥
unfolding read_sheet read_from
empty-sheet-planned places' loads' numbers' c = omega (arith, (c.sheet_refused (Truncated 0) refl).0)

module _ (r : ℕ) where
  pub fault_changes-places : ClaimedEmpty r (0 ∷ filled 7) (filled 8) (filled 16) → ⊥
  unfolding read_sheet read_from
  fault_changes-places c = omega (arith, first_entry (c.sheet_refused (Truncated 0) refl).1.both_tables.same_places)

  pub fault_changes-loads : ClaimedEmpty r (filled 8) (0 ∷ filled 7) (filled 16) → ⊥
  unfolding read_sheet read_from
  fault_changes-loads c = omega (arith, first_entry (c.sheet_refused (Truncated 0) refl).1.both_tables.same_loads)

  pub fault_changes_the_answer : ClaimedEmpty r (filled 8) (filled 8) (0 ∷ filled 23) → ⊥
  unfolding read_sheet read_from
  fault_changes_the_answer c = omega (arith, first_entry (c.sheet_refused (Truncated 0) refl).1.same_numbers)
