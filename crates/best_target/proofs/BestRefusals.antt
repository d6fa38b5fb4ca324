-- Wrong answers that the claim refuses, each by one of its fields: so none of them can lose its meaning unnoticed. Two
-- benches, four jobs of 2 on both, as in example 8 of document 01, and 9 as the sheet's own target; the search runs 8,
-- 4, 2 and 3.
--     right_claimed           the right answer is claimed: the target 4, with the plan of example 8, after 4 runs
--     own_target_claimed      the sheet's own target, at which there is a plan
--     one_more_claimed        5, at which there is a plan too: the target one below is not refused
--     one_less_claimed        3, at which there is none
--     runs_without_the_first  3 runs
--     plan_of_the-start       the plan of 8, the first target run
--     tables_untouched        the right answer, and both tables as before
--     fault_for_an_answer     a fault
--     empty-sheet-answered    the empty sheet, answered
use Prim.Native.Nat.{ℕ}
use mathlib.Core.Path.{◌≡◌, refl, ap, subst, ◌∙◌}
use mathlib.Core.Bool.{true, false}
use mathlib.Core.List.{List, [], ◌∷◌}
use native.Mathlib.Omega.{arith}
use Rattle.bools.proofs.BoolLaws.{clash}
use Rattle.bits.specs.Bits.{is_set}
use Rattle.sums.specs.Members.{members}
use Rattle.sums.specs.Sum.{fullest}
use Rattle.closure.specs.Closure.{grow, closure, reach}
use Rattle.fields.specs.declared.fault.Fault.{Fault}
use Rattle.fields.specs.declared.fault.Fault.TheVariants.{Truncated}
use Rattle.fields.specs.Contents.{Contents}
use Rattle.fields.specs.Tests.{booked_faults, hyper_edge_verdict}
use Rattle.fields.specs.Format.{booked_from, sheet_bytes}
use Rattle.frame.specs.Reading.{accepted, read_from, read_sheet}
use Rattle.frame.specs.Writing.{jobs_verdict, opening_verdict, writer_verdict}
use Rattle.frame.proofs.RoundTrip.{write_read_computed}
use Rattle.day.specs.Day.{Day, day_of, with_target, long_job}
use Rattle.day.specs.SmallSheets.{sheet, bay, both}
use Rattle.answers.specs.declared.answer.PlanAnswer.{PlanAnswer}
use Rattle.answers.specs.declared.best.BestAnswer.{BestAnswer}
use Rattle.answers.specs.declared.best.BestAnswer.TheVariants.{Best, Fault as Faulty}
use Rattle.answers.specs.declared.best.BestPlan.{BestPlan}
use Rattle.answers.specs.Answers.{is_plan, front}
use Rattle.answers.specs.BestAnswers.{best_of, BestReply}
use Rattle.algorithm.specs.Rocks.{lowest, highest}
use Rattle.algorithm.specs.Board.{rock_load}
use Rattle.algorithm.specs.Forced.{inner, outer}
use Rattle.algorithm.specs.Explore.{conflict_set, construct, activate, open_round, rounds, explore}
use Rattle.algorithm.specs.Settle.{follow, settle_from}
use Rattle.algorithm.specs.Start.{crowded_bench, one_cycle, peel, start}
use Rattle.algorithm.specs.Run.{own_minutes, answer_at, turns, run}
use Rattle.algorithm.specs.Answer.{answer_to}
use Rattle.algorithm.specs.Best.{gives_plan, seek, searched, targets_run, best_to}
use Rattle.algorithm.specs.BestExamples.{best}
use Rattle.argument.specs.Best.{Vouched}
use Rattle.blocking.specs.Claim.{Answerable}
use Rattle.best_target.specs.BestClaim.{BestClaim}
use Rattle.best_target.proofs.BestDemand.{best_claim, best_given-reply}

abbrev contents9 : Contents
contents9 = sheet (bay 2 4 7 9) (both 2 ∷ both 2 ∷ both 2 ∷ both 2 ∷ [])

abbrev day9 : Day
day9 = day_of contents9

abbrev sheet9 : List ℕ
sheet9 = sheet_bytes contents9

abbrev places : List ℕ
places = 9 ∷ 9 ∷ 9 ∷ 9 ∷ []

abbrev loads : List ℕ
loads = 9 ∷ 9 ∷ []

abbrev right_places : List ℕ
right_places = 1 ∷ 0 ∷ 0 ∷ 0 ∷ []

abbrev right_loads : List ℕ
right_loads = 6 ∷ 2 ∷ []

read_9 : read_sheet sheet9 ≡ accepted contents9
unfolding is_set hyper_edge_verdict booked_from booked_faults jobs_verdict opening_verdict writer_verdict
read_9 = write_read_computed contents9 refl refl refl

answerable : Answerable sheet9 places loads contents9
answerable = record { sheet_accepted = read_9; place_to_a_job = omega arith; load_to_a_bench = omega arith }

-- ── what the planner says of the targets, and the search of the sheet ──

gives : (is_plan (answer_to (with_target day9 3)).answer ≡ false)
    × (is_plan (answer_to (with_target day9 4)).answer ≡ true)
    × (is_plan (answer_to (with_target day9 8)).answer ≡ true)
unfolding fullest is_set grow closure reach lowest highest long_job rock_load inner outer conflict_set construct activate
    open_round rounds explore follow settle_from crowded_bench one_cycle peel start own_minutes answer_at turns run members
gives = (refl, refl, refl)

searched-9 : best_to day9 ≡ best 4 4 6 1 0 right_places right_loads
unfolding fullest is_set grow closure reach lowest highest long_job rock_load inner outer conflict_set construct activate
    open_round rounds explore follow settle_from crowded_bench one_cycle peel start own_minutes answer_at turns run members
    gives_plan seek searched
searched-9 = refl

four_runs : targets_run day9 ≡ 4
unfolding fullest is_set grow closure reach lowest highest long_job rock_load inner outer conflict_set construct activate
    open_round rounds explore follow settle_from crowded_bench one_cycle peel start own_minutes answer_at turns run members
    gives_plan seek searched
four_runs = refl

-- ── the answers ──

abbrev Claimed : BestAnswer → List ℕ → List ℕ → Type 0
Claimed r places' loads' = BestClaim sheet9 places loads r places' loads'

pub right_claimed : Claimed (Best (best_of 4 6 1 0 4)) right_places right_loads
right_claimed =
    subst
    (λ (a : BestReply). BestClaim sheet9 places loads a.answer (front a.places places) (front a.loads loads))
    (best_given-reply sheet9 places loads contents9 answerable ∙ searched-9)
    (best_claim sheet9 places loads)

-- What the claim says of a target.
told : {b : BestPlan} {places' loads' : List ℕ} → Claimed (Best b) places' loads' → Vouched day9 b
told {b = b} c = c.vouched contents9 answerable b refl

pub own_target_claimed : Claimed (Best (best_of 9 8 0 0 1)) (0 ∷ 0 ∷ 0 ∷ 0 ∷ []) (8 ∷ 0 ∷ []) → ⊥
own_target_claimed c = clash gives.2 ((told c).refused_below 8 refl)

pub one_more_claimed : (p : PlanAnswer) (runs : ℕ) (places' loads' : List ℕ)
    → Claimed (Best (record { target = 5; plan = p; runs = runs })) places' loads' → ⊥
one_more_claimed p runs places' loads' c = clash gives.1 ((told c).refused_below 4 refl)

pub one_less_claimed : (p : PlanAnswer) (runs : ℕ) (places' loads' : List ℕ)
    → Claimed (Best (record { target = 3; plan = p; runs = runs })) places' loads' → ⊥
one_less_claimed p runs places' loads' c = clash (ap is_plan (told c).its_plan) gives.0

pub runs_without_the_first : Claimed (Best (best_of 4 6 1 0 3)) right_places right_loads → ⊥
runs_without_the_first c = omega (arith, (told c).runs_are, four_runs)

pub plan_of_the-start : Claimed (Best (best_of 4 8 0 0 4)) (0 ∷ 0 ∷ 0 ∷ 0 ∷ []) (8 ∷ 0 ∷ []) → ⊥
plan_of_the-start c = clash ((c.plan_right contents9 answerable _ refl).within_bound 0 (omega arith)) refl

pub tables_untouched : Claimed (Best (best_of 4 6 1 0 4)) places loads → ⊥
tables_untouched c = omega (arith, (c.plan_right contents9 answerable _ refl).greatest 0 (omega arith))

pub fault_for_an_answer : (f : Fault) → Claimed (Faulty f) places loads → ⊥
fault_for_an_answer f c = let (b, e) = c.best_given contents9 answerable in clash {b = true} refl cc

pub empty-sheet-answered : (b : BestPlan) (places' loads' : List ℕ) → BestClaim [] places loads (Best b) places' loads'
    → ⊥
unfolding read_sheet read_from
empty-sheet-answered b places' loads' c = let e = (c.sheet_refused (Truncated 0) refl).0 in clash {b = true} refl cc
