-- Wrong answers that the claim refuses, each by one of its fields: so none of them can lose its meaning unnoticed.
-- Example 8 of document 01 (two benches, four jobs of 2 on both, T = 4), with tables of exactly the needed size:
--     right_claimed           the right answer is claimed
--     load_not_its_own        a load that is not that of the places
--     largest_too_small, largest_too_large    a largest load that is not the greatest of them
--     fullest_has_less, fullest_lacking       as the fullest bench 1, which has less, and bench 2, which the head lacks
--     higher_of_a_tie         loads 4 and 4, and bench 1 as the fullest
--     load_above_bound        every job on its lowest bench: loads 8 and 0
--     bench_lacking           a bench that the head lacks
--     too_many_moves          9 moves; 2 benches × 4 light jobs are 8
--     tables_untouched        a plan that is not in the tables
--     places-grown, loads-grown   a table with an entry more
--     long_for_none_long, none_for_a_rival, fault_for_an_answer   another answer; two_each is the rival's assignment
--     long_not_over, none_not_over    the rival has no bench above T
-- The same with longer tables:
--     later_place_changed, later_load_changed     an entry behind the plan's
-- One bench, T = 4, jobs of 5 and 6 on it:
--     only_long               no answer but long is claimed
--     second-long_named       long with job 1
--     plan_with_a_long_job, none_with_a_long_job      another answer
--     long_changes-places, long_changes-loads     long, and a table changed
-- Two benches, three jobs of 5 on both, T = 8 (example 4):
--     set_of_no_bench, set_past_the_head, set_too_wide    none with the empty set, with bench 2, with a bit too many
--     none_with_a_move        none after a move, where no light job has a choice
--     set_that_fits           none with a set that does not weigh more than k × T (another sheet)
--     none_changes-places, none_changes-loads     none, and a table changed
-- Other calls:
--     empty-sheet-planned     the empty sheet, planned
--     fault_changes-places, fault_changes-loads   refused, and a table changed
--     short_table_planned     three places for four jobs, planned
--     short_changes-places, short_changes-loads   that call refused, and a table changed
use Prim.Native.Nat.{ℕ, zero, suc, ◌/◌, ◌^◌, ◌≤◌, ◌<◌}
use mathlib.Core.Path.{◌≡◌, refl, ap}
use mathlib.Core.Logic.{inl, inr}
use mathlib.Core.Bool.{true}
use mathlib.Core.List.{List, [], ◌∷◌}
use native.Mathlib.Omega.{arith}
use lib.ListN.{get_or}
use Rattle.bools.proofs.BoolLaws.{clash}
use Rattle.bits.specs.Bits.{is_set}
use Rattle.fields.specs.declared.fault.Fault.{Fault}
use Rattle.fields.specs.declared.fault.Fault.TheVariants.{Truncated}
use Rattle.fields.specs.Contents.{Contents}
use Rattle.fields.specs.Format.{booked_from, sheet_bytes}
use Rattle.fields.specs.Tests.{booked_faults, hyper_edge_verdict}
use Rattle.frame.specs.Reading.{accepted, read_from, read_sheet}
use Rattle.frame.specs.Writing.{jobs_verdict, opening_verdict, writer_verdict}
use Rattle.frame.proofs.RoundTrip.{write_read_computed}
use Rattle.day.specs.Day.{day_of, heavy, load_of}
use Rattle.day.specs.SmallSheets.{sheet, bay, first, second, both}
use Rattle.demand.specs.Demand.{Assignment, keeps_target, SomeOver, Placement}
use Rattle.answers.specs.declared.answer.Answer.{Answer}
use Rattle.answers.specs.declared.answer.Answer.TheVariants.{Plan, Long, None, Fault as Faulty}
use Rattle.answers.specs.declared.answer.PlanAnswer.{PlanAnswer}
use Rattle.answers.specs.declared.answer.LongAnswer.{LongAnswer}
use Rattle.answers.specs.declared.answer.NoneAnswer.{NoneAnswer}
use Rattle.blocking.specs.Claim.{Answerable, PlanInTables, PlannerClaim}
use Rattle.blocking.proofs.Claim.{planner_claim, no_fault}
use Rattle.blocking.proofs.ClaimExamples.{contents8, sheet8, plan8, read_8, answer_8, exact_places, exact_loads, answerable_exact}
use Rattle.blocking.proofs.ClaimExamples.{places, loads, answerable_8}

-- The three answers, by their values.
abbrev pub plan_of : ℕ → ℕ → ℕ → PlanAnswer
plan_of largest moves fullest = record { largest = largest; moves = moves; fullest = fullest }

abbrev long_of : ℕ → LongAnswer
long_of j = record { job = j }

abbrev none_of : ℕ → ℕ → NoneAnswer
none_of set moves = record { set = set; moves = moves }

-- The first entry of a table that was to be kept.
pub first_entry : {xs ys : List ℕ} → xs ≡ ys → get_or xs 0 0 ≡ get_or ys 0 0
first_entry e = ap (λ (zs : List ℕ). get_or zs 0 0) e

-- ── example 8 ──

abbrev Claimed : Answer → List ℕ → List ℕ → Type 0
Claimed r places' loads' = PlannerClaim sheet8 exact_places exact_loads r places' loads'

abbrev right_places : List ℕ
right_places = 1 ∷ 0 ∷ 0 ∷ 0 ∷ []

abbrev right_loads : List ℕ
right_loads = 6 ∷ 2 ∷ []

pub right_claimed : Claimed (Plan plan8) right_places right_loads
right_claimed = rw (answer_8 4 2 refl) at (planner_claim sheet8 exact_places exact_loads)

-- What the claim says of this plan.
planned : {p : PlanAnswer} {places' loads' : List ℕ} → Claimed (Plan p) places' loads'
    → PlanInTables (day_of contents8) p exact_places exact_loads places' loads'
planned {p = p} c = c.plan_right contents8 answerable_exact p refl

pub load_not_its_own : Claimed (Plan (plan_of 6 1 0)) right_places (6 ∷ 3 ∷ []) → ⊥
load_not_its_own c = omega (arith, (planned c).its_loads 1 (omega arith))

pub largest_too_small : Claimed (Plan (plan_of 5 1 0)) right_places right_loads → ⊥
largest_too_small c = omega (arith, (planned c).greatest 0 (omega arith))

pub largest_too_large : Claimed (Plan (plan_of 7 1 0)) right_places right_loads → ⊥
largest_too_large c = let (v, l, e) = (planned c).one_of_them in omega (arith, e, at_most v l)
  where
    at_most : (v : ℕ) → v < 2 → get_or right_loads v 0 ≤ 6
    at_most zero l = omega arith
    at_most (suc zero) l = omega arith
    at_most (suc (suc v)) l = absurd (omega arith)

pub fullest_has_less : Claimed (Plan (plan_of 6 1 1)) right_places right_loads → ⊥
fullest_has_less c = omega (arith, (planned c).fullest_load)

pub fullest_lacking : Claimed (Plan (plan_of 6 1 2)) right_places right_loads → ⊥
fullest_lacking c = omega (arith, (planned c).fullest_bench)

pub higher_of_a_tie : Claimed (Plan (plan_of 4 2 1)) (1 ∷ 1 ∷ 0 ∷ 0 ∷ []) (4 ∷ 4 ∷ []) → ⊥
higher_of_a_tie c = omega (arith, (planned c).lower_less 0 (omega arith))

pub load_above_bound : Claimed (Plan (plan_of 8 0 0)) (0 ∷ 0 ∷ 0 ∷ 0 ∷ []) (8 ∷ 0 ∷ []) → ⊥
load_above_bound c = clash ((planned c).within_bound 0 (omega arith)) refl

pub bench_lacking : Claimed (Plan (plan_of 4 0 0)) (0 ∷ 0 ∷ 2 ∷ 2 ∷ []) (4 ∷ 0 ∷ []) → ⊥
unfolding is_set
bench_lacking c = clash ((planned c).assignment.on_allowed 2 (omega arith)) refl

pub too_many_moves : Claimed (Plan (plan_of 6 9 0)) right_places right_loads → ⊥
unfolding is_set
too_many_moves c = omega (arith, (planned c).few_moves)

pub tables_untouched : Claimed (Plan (plan_of 6 1 0)) exact_places exact_loads → ⊥
unfolding is_set
tables_untouched c = clash ((planned c).assignment.on_allowed 0 (omega arith)) refl

pub places-grown : Claimed (Plan (plan_of 6 1 0)) (1 ∷ 0 ∷ 0 ∷ 0 ∷ 9 ∷ []) right_loads → ⊥
places-grown c = omega (arith, (planned c).as_many_places)

pub loads-grown : Claimed (Plan (plan_of 6 1 0)) right_places (6 ∷ 2 ∷ 9 ∷ []) → ⊥
loads-grown c = omega (arith, (planned c).as_many_loads)

pub long_for_none_long : Claimed (Long (long_of 0)) exact_places exact_loads → ⊥
long_for_none_long c = clash (c.long_right contents8 answerable_exact (long_of 0) refl).0.is_long.longer refl

-- Two jobs on each bench keep every bench within 4.
pub two_each : Assignment (day_of contents8) (λ j. j / 2) × (keeps_target (day_of contents8) (λ j. j / 2) ≡ true)
unfolding is_set
two_each = (record { on_allowed = on_both }, refl)
  where
    on_both : (j : ℕ) → j < 4 → (day_of contents8).allows j (j / 2) ≡ true
    on_both zero l = refl
    on_both (suc zero) l = refl
    on_both (suc (suc zero)) l = refl
    on_both (suc (suc (suc zero))) l = refl
    on_both (suc (suc (suc (suc j)))) l = absurd (omega arith)

pub none_for_a_rival : (n : NoneAnswer) → Claimed (None n) exact_places exact_loads → ⊥
none_for_a_rival n c =
    let (p, e) = c.rival_planned contents8 answerable_exact (λ j. j / 2) two_each.0 two_each.1 in
    clash {b = true} refl cc

pub two_each_within : SomeOver (day_of contents8) (λ j. j / 2) → ⊥
two_each_within (v, l, over) = omega (arith, at_most v l, over)
  where
    at_most : (v : ℕ) → v < 2 → load_of (day_of contents8) (λ j. j / 2) v ≤ 4
    at_most zero l = omega arith
    at_most (suc zero) l = omega arith
    at_most (suc (suc v)) l = absurd (omega arith)

pub long_not_over : (l : LongAnswer) (places' loads' : List ℕ) → Claimed (Long l) places' loads' → ⊥
long_not_over l places' loads' c =
    two_each_within (c.over_after_long contents8 answerable_exact l refl (λ j. j / 2) two_each.0)

pub none_not_over : (n : NoneAnswer) (places' loads' : List ℕ) → Claimed (None n) places' loads' → ⊥
none_not_over n places' loads' c =
    two_each_within (c.over_after_none contents8 answerable_exact n refl (λ j. j / 2) two_each.0)

pub fault_for_an_answer : (f : Fault) → Claimed (Faulty f) exact_places exact_loads → ⊥
fault_for_an_answer f c = no_fault (c.one_of_three contents8 answerable_exact) refl

-- ── longer tables ──

abbrev ClaimedLonger : List ℕ → List ℕ → Type 0
ClaimedLonger places' loads' = PlannerClaim sheet8 places loads (Plan (plan_of 6 1 0)) places' loads'

longer_planned : {places' loads' : List ℕ} → ClaimedLonger places' loads'
    → PlanInTables (day_of contents8) (plan_of 6 1 0) places loads places' loads'
longer_planned c = c.plan_right contents8 answerable_8 (plan_of 6 1 0) refl

pub later_place_changed : ClaimedLonger (1 ∷ 0 ∷ 0 ∷ 0 ∷ 8 ∷ []) (6 ∷ 2 ∷ 9 ∷ []) → ⊥
later_place_changed c = omega (arith, first_entry (longer_planned c).later_places_kept)

pub later_load_changed : ClaimedLonger (1 ∷ 0 ∷ 0 ∷ 0 ∷ 9 ∷ []) (6 ∷ 2 ∷ 8 ∷ []) → ⊥
later_load_changed c = omega (arith, first_entry (longer_planned c).later_loads_kept)

-- ── two long jobs ──

abbrev pub long_contents : Contents
long_contents = sheet (bay 1 4 7 4) (first 5 ∷ first 6 ∷ [])

abbrev pub long_sheet : List ℕ
long_sheet = sheet_bytes long_contents

pub long_read : read_sheet long_sheet ≡ accepted long_contents
unfolding is_set hyper_edge_verdict booked_from booked_faults jobs_verdict opening_verdict writer_verdict
long_read = write_read_computed long_contents refl refl refl

abbrev ClaimedLong : Answer → List ℕ → List ℕ → Type 0
ClaimedLong r places' loads' = PlannerClaim long_sheet exact_loads (9 ∷ []) r places' loads'

long_answerable : Answerable long_sheet exact_loads (9 ∷ []) long_contents
long_answerable = record { sheet_accepted = long_read; place_to_a_job = omega arith; load_to_a_bench = omega arith }

pub second-long_named : ClaimedLong (Long (long_of 1)) exact_loads (9 ∷ []) → ⊥
second-long_named c = omega (arith, (c.long_right long_contents long_answerable (long_of 1) refl).0.lowest 0 (omega arith))

pub plan_with_a_long_job : (p : PlanAnswer) (places' loads' : List ℕ) → ClaimedLong (Plan p) places' loads' → ⊥
plan_with_a_long_job p places' loads' c = omega (arith, c.plan_fits long_contents long_answerable p refl 0 (omega arith))

pub none_with_a_long_job : (n : NoneAnswer) (places' loads' : List ℕ) → ClaimedLong (None n) places' loads' → ⊥
none_with_a_long_job n places' loads' c = omega (arith, c.none_fits long_contents long_answerable n refl 0 (omega arith))

pub only_long : (r : Answer) (places' loads' : List ℕ) → ClaimedLong r places' loads' → (l : LongAnswer) × (r ≡ Long l)
only_long r places' loads' c = c.long_given long_contents long_answerable 1 (record { is_job = omega arith; longer = refl })

pub long_changes-places : ClaimedLong (Long (long_of 0)) (8 ∷ 9 ∷ []) (9 ∷ []) → ⊥
long_changes-places c = omega (arith, first_entry (c.long_right long_contents long_answerable (long_of 0) refl).1.same_places)

pub long_changes-loads : ClaimedLong (Long (long_of 0)) exact_loads (8 ∷ []) → ⊥
long_changes-loads c = omega (arith, first_entry (c.long_right long_contents long_answerable (long_of 0) refl).1.same_loads)

-- ── sets that a none may not name ──

abbrev pub full_contents : Contents
full_contents = sheet (bay 2 4 7 8) (both 5 ∷ both 5 ∷ both 5 ∷ [])

abbrev pub full_sheet : List ℕ
full_sheet = sheet_bytes full_contents

pub full_read : read_sheet full_sheet ≡ accepted full_contents
unfolding is_set hyper_edge_verdict booked_from booked_faults jobs_verdict opening_verdict writer_verdict
full_read = write_read_computed full_contents refl refl refl

abbrev ClaimedNone : ℕ → ℕ → List ℕ → List ℕ → Type 0
ClaimedNone set moves places' loads' = PlannerClaim full_sheet exact_places exact_loads (None (none_of set moves)) places' loads'

full_answerable : Answerable full_sheet exact_places exact_loads full_contents
full_answerable = record { sheet_accepted = full_read; place_to_a_job = omega arith; load_to_a_bench = omega arith }

pub set_of_no_bench : ClaimedNone 0 0 exact_places exact_loads → ⊥
unfolding is_set
set_of_no_bench c = omega (arith, (c.none_right full_contents full_answerable (none_of 0 0) refl).0.blocking.some_bench)

-- Bench 2 is the bit of weight 2 ^ 61.
pub set_past_the_head : ClaimedNone (2 ^ 61) 0 exact_places exact_loads → ⊥
unfolding is_set
set_past_the_head c = omega (arith, (c.none_right full_contents full_answerable (none_of (2 ^ 61) 0) refl).0.of_the_head 2 refl)

pub set_too_wide : ClaimedNone (2 ^ 64) 0 exact_places exact_loads → ⊥
set_too_wide c = omega (arith, (c.none_right full_contents full_answerable (none_of (2 ^ 64) 0) refl).0.of_64_bits)

-- All three jobs are heavy.
pub none_with_a_move : (set : ℕ) → ClaimedNone set 1 exact_places exact_loads → ⊥
unfolding is_set
none_with_a_move set c = omega (arith, (c.none_right full_contents full_answerable (none_of set 1) refl).0.few_moves)

pub none_changes-places : (set : ℕ) → ClaimedNone set 0 (8 ∷ 9 ∷ 9 ∷ 9 ∷ []) exact_loads → ⊥
none_changes-places set c = omega (arith, first_entry (c.none_right full_contents full_answerable (none_of set 0) refl).1.same_places)

pub none_changes-loads : (set : ℕ) → ClaimedNone set 0 exact_places (8 ∷ 9 ∷ []) → ⊥
none_changes-loads set c = omega (arith, first_entry (c.none_right full_contents full_answerable (none_of set 0) refl).1.same_loads)

-- Two benches, T = 5: a heavy job of 4 on each, and light ones of 2 and 1 on bench 0. Both benches block, bench 1 alone
-- carries 4.
abbrev pub one_full_contents : Contents
one_full_contents = sheet (bay 2 4 7 5) (first 4 ∷ second 4 ∷ first 2 ∷ first 1 ∷ [])

abbrev pub one_full_sheet : List ℕ
one_full_sheet = sheet_bytes one_full_contents

pub one_full_read : read_sheet one_full_sheet ≡ accepted one_full_contents
unfolding is_set hyper_edge_verdict booked_from booked_faults jobs_verdict opening_verdict writer_verdict
one_full_read = write_read_computed one_full_contents refl refl refl

one_full_answerable : Answerable one_full_sheet exact_places exact_loads one_full_contents
one_full_answerable = record { sheet_accepted = one_full_read; place_to_a_job = omega arith; load_to_a_bench = omega arith }

-- Each heavy job on its own bench.
pub one_full_placed : Placement (day_of one_full_contents) (λ j. j)
unfolding is_set
one_full_placed = record { on_allowed = own-bench; one_to_a_bench = λ e f le lf he hf same. omega arith }
  where
    own-bench : (j : ℕ) → j < 4 → heavy (day_of one_full_contents) j ≡ true → (day_of one_full_contents).allows j j ≡ true
    own-bench zero l is-heavy = refl
    own-bench (suc zero) l is-heavy = refl
    own-bench (suc (suc zero)) l is-heavy = clash is-heavy refl
    own-bench (suc (suc (suc zero))) l is-heavy = clash is-heavy refl
    own-bench (suc (suc (suc (suc j)))) l is-heavy = absurd (omega arith)

-- Bench 1 is the bit of weight 2 ^ 62.
pub set_that_fits : PlannerClaim one_full_sheet exact_places exact_loads (None (none_of (2 ^ 62) 0)) exact_places exact_loads → ⊥
unfolding is_set
set_that_fits c =
    let right = c.none_right one_full_contents one_full_answerable (none_of (2 ^ 62) 0) refl in
    omega (arith, right.0.blocking.heavier (λ j. j) one_full_placed)

-- ── other calls ──

pub empty-sheet-planned : (p : PlanAnswer) (places' loads' : List ℕ) → PlannerClaim [] exact_places exact_loads (Plan p) places' loads' → ⊥
unfolding read_sheet read_from
empty-sheet-planned p places' loads' c = let e = (c.sheet_refused (Truncated 0) refl).0 in clash {b = true} refl cc

pub short_table_planned : (p : PlanAnswer) (places' loads' : List ℕ)
    → PlannerClaim sheet8 (9 ∷ 9 ∷ 9 ∷ []) exact_loads (Plan p) places' loads' → ⊥
short_table_planned p places' loads' c =
    let e = (c.tables_short contents8 read_8 (inl (omega arith))).0 in clash {b = true} refl cc

pub fault_changes-places : (r : Answer) (loads' : List ℕ) → PlannerClaim [] exact_places exact_loads r (8 ∷ 9 ∷ 9 ∷ 9 ∷ []) loads' → ⊥
unfolding read_sheet read_from
fault_changes-places r loads' c = omega (arith, first_entry (c.sheet_refused (Truncated 0) refl).1.same_places)

pub fault_changes-loads : (r : Answer) (places' : List ℕ) → PlannerClaim [] exact_places exact_loads r places' (8 ∷ 9 ∷ []) → ⊥
unfolding read_sheet read_from
fault_changes-loads r places' c = omega (arith, first_entry (c.sheet_refused (Truncated 0) refl).1.same_loads)

pub short_changes-places : (r : Answer) (loads' : List ℕ) → PlannerClaim sheet8 (9 ∷ 9 ∷ 9 ∷ []) exact_loads r (8 ∷ 9 ∷ 9 ∷ []) loads' → ⊥
short_changes-places r loads' c = omega (arith, first_entry (c.tables_short contents8 read_8 (inl (omega arith))).1.same_places)

pub short_changes-loads : (r : Answer) (places' : List ℕ) → PlannerClaim sheet8 exact_places (9 ∷ []) r places' (8 ∷ []) → ⊥
short_changes-loads r places' c = omega (arith, first_entry (c.tables_short contents8 read_8 (inr (omega arith))).1.same_loads)
