-- Check-only jobs (request S-3), from the bytes of a sheet to the answer and both tables.
-- Every accepted sheet that has such jobs alone and no booking above 0, whatever its target:
--     checks_answered         the planner's reply to it is checks_reply, with any tables that are large enough
--     checks_planned          so a call answers with a plan of largest load 0 and 0 moves, and leaves each job's lowest
--                             bench and no load in the tables
-- Every call:
--     never_10_answered       no answer is fault 10
-- Every accepted sheet with the target 0:
--     above_zero              one with a job above 0 gives long
-- Two benches, T = 0, a check on bench 1 and one on both, tables of exactly the needed size:
--     read_checks, answer_checks  its sheet is accepted; the planner's answer, computed
--     checks_claimed          it is claimed
--     check_refused, check_heavy, check_left_out      a fault; none, as if a check filled a bench; a plan without the
--                             place of a check
use Prim.Native.Nat.{ℕ, zero, suc, ◌<◌}
use mathlib.Core.Path.{◌≡◌, refl, ap, subst, ◌∙◌}
use mathlib.Core.Logic.{◌≢◌, inl, inr}
use mathlib.Core.Bool.{true, false}
use mathlib.Core.List.{List, [], ◌∷◌}
use native.Mathlib.Omega.{arith}
use lib.ListN.{length}
use Rattle.bools.proofs.BoolLaws.{clash}
use Rattle.bits.specs.Bits.{is_set}
use Rattle.fields.specs.declared.fault.Fault.{Fault}
use Rattle.fields.specs.declared.fault.Fault.TheVariants.{Table}
use Rattle.fields.specs.Numbers.{number_of}
use Rattle.fields.specs.Contents.{Contents}
use Rattle.fields.specs.Format.{booked_from, sheet_bytes}
use Rattle.fields.specs.Tests.{booked_faults, hyper_edge_verdict}
use Rattle.frame.specs.Reading.{accepted, read_sheet}
use Rattle.frame.specs.Writing.{jobs_verdict, opening_verdict, writer_verdict}
use Rattle.frame.proofs.AcceptedLaws.{no_bookings_lem}
use Rattle.frame.proofs.FirstFault.{never_10}
use Rattle.frame.proofs.RoundTrip.{write_read_computed}
use Rattle.day.specs.Day.{day_of, check_only, ChecksOnly}
use Rattle.day.specs.SmallSheets.{sheet, bay, second, both}
use Rattle.day.proofs.CheckOnly.{above-zero-long}
use Rattle.answers.specs.declared.answer.Answer.{Answer}
use Rattle.answers.specs.declared.answer.Answer.TheVariants.{Plan, Long, None, Fault as Faulty}
use Rattle.answers.specs.declared.answer.LongAnswer.{LongAnswer}
use Rattle.answers.specs.declared.answer.NoneAnswer.{NoneAnswer}
use Rattle.answers.specs.declared.answer.Filled.{Filled}
use Rattle.answers.specs.Answers.{Reply, plan_reply, Answered}
use Rattle.algorithm.specs.Rocks.{lowest}
use Rattle.algorithm.specs.Answer.{checks_reply, answer_for}
use Rattle.algorithm.proofs.CheckOnlyRun.{answer_of_checks}
use Rattle.blocking.specs.Claim.{Answerable, PlannerClaim}
use Rattle.blocking.proofs.Claim.{answer_given, planner_claim, no_fault}
use Rattle.blocking.proofs.ClaimRefusals.{plan_of}

module _ (s places loads : List ℕ) (c : Contents) (t : Answerable s places loads c) where
  module _ (checks : ChecksOnly (day_of c)) where
    pub checks_answered : answer_for s (length places) (length loads) ≡ checks_reply (day_of c)
    checks_answered =
        answer_given s (length places) (length loads) c t.sheet_accepted t.place_to_a_job t.load_to_a_bench
        ∙ answer_of_checks (day_of c) checks

    pub checks_planned : {r : Filled} {places' loads' : List ℕ}
        → Answered (answer_for s (length places) (length loads)) r places loads places' loads'
        → Answered (checks_reply (day_of c)) r places loads places' loads'
    checks_planned {r} {places'} {loads'} called =
        subst (λ (a : Reply). Answered a r places loads places' loads') checks_answered called

  pub above_zero : {r : Answer} {places' loads' : List ℕ} → PlannerClaim s places loads r places' loads'
      → c.head.target ≡ 0 → (j : ℕ) → j < length c.jobs → check_only (day_of c) j ≡ false
      → (l : LongAnswer) × (r ≡ Long l)
  above_zero claim no-time j below above =
      claim.long_given c t j (record { is_job = below; longer = above-zero-long (day_of c) j no-time above })

pub never_10_answered : (s places loads : List ℕ) {r : Answer} {places' loads' : List ℕ}
    → PlannerClaim s places loads r places' loads' → (f : Fault) → r ≡ Faulty f → number_of f ≢ 10
never_10_answered s places loads claim f e = elim claim.one_case.some [
  | inl (g, faulty) ↦
      let same : g ≡ f = cc ((claim.sheet_refused g faulty).0, e) in
      subst (λ (x : Fault). number_of x ≢ 10) same (never_10 s g faulty)
  | inr (inl (c, read, short)) ↦
      let same : Table 0 ≡ f = cc ((claim.tables_short c read short).0, e) in
      λ ten. omega (arith, ap number_of same)
  | inr (inr (c, t)) ↦ absurd (no_fault (claim.one_of_three c t) e)
]

-- ── an example ──

abbrev pub two_checks : Contents
two_checks = sheet (bay 2 4 7 0) (second 0 ∷ both 0 ∷ [])

abbrev bytes : List ℕ
bytes = sheet_bytes two_checks

pub read_checks : read_sheet bytes ≡ accepted two_checks
unfolding is_set hyper_edge_verdict booked_from booked_faults jobs_verdict opening_verdict writer_verdict
read_checks = write_read_computed two_checks refl refl refl

abbrev two_places : List ℕ
two_places = 9 ∷ 9 ∷ []

abbrev two_loads : List ℕ
two_loads = 9 ∷ 9 ∷ []

answerable : Answerable bytes two_places two_loads two_checks
answerable = record { sheet_accepted = read_checks; place_to_a_job = omega arith; load_to_a_bench = omega arith }

only_checks : ChecksOnly (day_of two_checks)
only_checks = record { each_job = each; none_booked = λ v l. no_bookings_lem v }
  where
    each : (j : ℕ) → j < 2 → check_only (day_of two_checks) j ≡ true
    each zero l = refl
    each (suc zero) l = refl
    each (suc (suc j)) l = absurd (omega arith)

pub answer_checks : answer_for bytes 2 2 ≡ plan_reply (plan_of 0 0 0) (1 ∷ 0 ∷ []) (0 ∷ 0 ∷ [])
unfolding is_set lowest
answer_checks = checks_answered bytes two_places two_loads two_checks answerable only_checks

abbrev Claimed : Answer → List ℕ → List ℕ → Type 0
Claimed r places' loads' = PlannerClaim bytes two_places two_loads r places' loads'

pub checks_claimed : Claimed (Plan (plan_of 0 0 0)) (1 ∷ 0 ∷ []) (0 ∷ 0 ∷ [])
checks_claimed = rw answer_checks at (planner_claim bytes two_places two_loads)

pub check_refused : (f : Fault) → Claimed (Faulty f) two_places two_loads → ⊥
check_refused f c = no_fault (c.one_of_three two_checks answerable) refl

pub check_heavy : (n : NoneAnswer) → Claimed (None n) two_places two_loads → ⊥
unfolding is_set
check_heavy n c =
    let (p, e) = c.rival_planned two_checks answerable (λ j. 1) (record { on_allowed = on-bench-1 }) refl in
    clash {b = true} refl cc
  where
    on-bench-1 : (j : ℕ) → j < 2 → (day_of two_checks).allows j 1 ≡ true
    on-bench-1 zero l = refl
    on-bench-1 (suc zero) l = refl
    on-bench-1 (suc (suc j)) l = absurd (omega arith)

pub check_left_out : Claimed (Plan (plan_of 0 0 0)) (1 ∷ 9 ∷ []) (0 ∷ 0 ∷ []) → ⊥
check_left_out c =
    clash ((c.plan_right two_checks answerable (plan_of 0 0 0) refl).assignment.on_allowed 1 (omega arith)) refl
