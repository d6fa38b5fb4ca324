-- Example 8 of document 01, from the bytes of its sheet to both tables: the claim speaks of some calls. Once with tables longer than needed,
-- once with tables of exactly the needed size.
--     read_8              its sheet is accepted
--     run-8               the run's answer to it
--     answer_8            the planner's, with any tables that are large enough
--     answerable_8        the tables are large enough
--     planned_8           the answer
--     places-8, loads-8   both tables after it
--     answerable_exact    tables of exactly the needed size are large enough
--     called_exact        what a call with them answers, how many entries it writes, and what it leaves in both
use Prim.Native.Nat.{ℕ}
use mathlib.Core.Path.{◌≡◌, refl, ap, ◌∙◌}
use mathlib.Core.Bool.{false}
use mathlib.Core.List.{List, [], ◌∷◌}
use native.Mathlib.Omega.{arith}
use lib.ListN.{length}
use Rattle.bits.specs.Bits.{is_set}
use Rattle.sums.specs.Members.{members}
use Rattle.sums.specs.Sum.{fullest}
use Rattle.closure.specs.Closure.{grow, closure, reach}
use Rattle.fields.specs.Contents.{Contents}
use Rattle.fields.specs.Tests.{booked_faults, hyper_edge_verdict}
use Rattle.fields.specs.Format.{booked_from, sheet_bytes}
use Rattle.frame.specs.Writing.{jobs_verdict, opening_verdict, writer_verdict}
use Rattle.frame.specs.Reading.{accepted, read_sheet}
use Rattle.frame.proofs.RoundTrip.{write_read_computed}
use Rattle.day.specs.Day.{day_of, long_job}
use Rattle.day.specs.SmallSheets.{sheet, bay, both}
use Rattle.answers.specs.declared.answer.Answer.TheVariants.{Plan}
use Rattle.answers.specs.declared.answer.PlanAnswer.{PlanAnswer}
use Rattle.answers.specs.declared.answer.Filled.{Filled}
use Rattle.answers.specs.Answers.{Reply, plan_reply, front, Answered}
use Rattle.algorithm.specs.Rocks.{lowest, highest}
use Rattle.algorithm.specs.Board.{rock_load}
use Rattle.algorithm.specs.Forced.{inner, outer}
use Rattle.algorithm.specs.Explore.{conflict_set, construct, activate, open_round, rounds, explore}
use Rattle.algorithm.specs.Settle.{follow, settle_from}
use Rattle.algorithm.specs.Start.{crowded_bench, one_cycle, peel, start}
use Rattle.algorithm.specs.Run.{own_minutes, answer_at, turns, run}
use Rattle.algorithm.specs.Answer.{answer_to, short_tables, answer_for}
use Rattle.blocking.specs.Claim.{Answerable}

-- Two benches, four jobs of 2 on both, T = 4.
abbrev pub contents8 : Contents
contents8 = sheet (bay 2 4 7 4) (both 2 ∷ both 2 ∷ both 2 ∷ both 2 ∷ [])

abbrev pub sheet8 : List ℕ
sheet8 = sheet_bytes contents8

-- Largest load 6, one move; bench 0 is the fullest.
abbrev pub plan8 : PlanAnswer
plan8 = record { largest = 6; moves = 1; fullest = 0 }

abbrev pub reply8 : Reply
reply8 = plan_reply plan8 (1 ∷ 0 ∷ 0 ∷ 0 ∷ []) (6 ∷ 2 ∷ [])

-- Five places and three loads, one of each more than needed.
abbrev pub places : List ℕ
places = 9 ∷ 9 ∷ 9 ∷ 9 ∷ 9 ∷ []

abbrev pub loads : List ℕ
loads = 9 ∷ 9 ∷ 9 ∷ []

pub read_8 : read_sheet sheet8 ≡ accepted contents8
unfolding is_set hyper_edge_verdict booked_from booked_faults jobs_verdict opening_verdict writer_verdict
read_8 = write_read_computed contents8 refl refl refl

pub answerable_8 : Answerable sheet8 places loads contents8
answerable_8 = record { sheet_accepted = read_8; place_to_a_job = omega arith; load_to_a_bench = omega arith }

pub run-8 : answer_to (day_of contents8) ≡ reply8
unfolding fullest is_set grow closure reach lowest highest long_job rock_load inner outer conflict_set construct activate
    open_round rounds explore follow settle_from crowded_bench one_cycle peel start own_minutes answer_at turns run members
run-8 = refl

pub answer_8 : (np nl : ℕ) → short_tables contents8 np nl ≡ false → answer_for sheet8 np nl ≡ reply8
unfolding answer_for
answer_8 np nl enough = rw (read_8, enough, answer_for) run-8

pub planned_8 : (answer_for sheet8 (length places) (length loads)).answer ≡ Plan plan8
planned_8 = ap (λ (a : Reply). a.answer) (answer_8 5 3 refl)

pub places-8 : front (answer_for sheet8 (length places) (length loads)).places places ≡ 1 ∷ 0 ∷ 0 ∷ 0 ∷ 9 ∷ []
places-8 = ap (λ (a : Reply). front a.places places) (answer_8 5 3 refl)

pub loads-8 : front (answer_for sheet8 (length places) (length loads)).loads loads ≡ 6 ∷ 2 ∷ 9 ∷ []
loads-8 = ap (λ (a : Reply). front a.loads loads) (answer_8 5 3 refl)

-- ── tables of exactly the needed size ──

abbrev pub exact_places : List ℕ
exact_places = 9 ∷ 9 ∷ 9 ∷ 9 ∷ []

abbrev pub exact_loads : List ℕ
exact_loads = 9 ∷ 9 ∷ []

pub answerable_exact : Answerable sheet8 exact_places exact_loads contents8
answerable_exact = record { sheet_accepted = read_8; place_to_a_job = omega arith; load_to_a_bench = omega arith }

pub called_exact : {r : Filled} {places' loads' : List ℕ} → Answered (answer_for sheet8 4 2) r exact_places exact_loads places' loads'
    → (r ≡ record { answer = Plan plan8; places = 4; loads = 2 }) × (places' ≡ 1 ∷ 0 ∷ 0 ∷ 0 ∷ []) × (loads' ≡ 6 ∷ 2 ∷ [])
called_exact called =
    let answered = answer_8 4 2 refl in
    let given = called.answer ∙ ap (λ (a : Reply). a.answer) answered in
    let so-many-places = called.places_written ∙ ap (λ (a : Reply). length a.places) answered in
    let so-many-loads = called.loads_written ∙ ap (λ (a : Reply). length a.loads) answered in (
      rw (← given, ← so-many-places, ← so-many-loads) refl,
      called.new_places ∙ ap (λ (a : Reply). front a.places exact_places) answered,
      called.new_loads ∙ ap (λ (a : Reply). front a.loads exact_loads) answered,
    )
