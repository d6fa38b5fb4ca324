-- The theorems about the search for the best target (request S-4), for a day that is accepted whatever target it is
-- given, and whose start has 30 bits: every accepted sheet has such a day (algorithm SheetDay `accepted_at`,
-- `start_fits`).
--     start_planned       a plan exists at the start
--     best_is_plan        the answer is the planner's plan at the target found, and never the zeros of plan_in
--     best_sound          that plan is right for the day with that target
--     vouched             what the request promises of it
use Prim.Native.Nat.{ℕ, zero, suc, ◌+◌, ◌*◌, ◌^◌, ◌≤◌, ◌<◌}
use native.Mathlib.Omega.{arith}
use native.Mathlib.Nat.{mul-le-mul_left}
use mathlib.Core.Path.{◌≡◌, refl, subst}
use mathlib.Core.Bool.{true, false}
use lib.Dec.{eqb}
use borrow.Author.Tests.{le-leb, leb-true}
use Rattle.bools.proofs.BoolLaws.{clash}
use Rattle.sums.proofs.SumLaws.{sum-term, sum-on-le}
use Rattle.sums.proofs.LargestLaws.{largest_bound}
use Rattle.sums.proofs.SearchLaws.{all_intro}
use Rattle.day.specs.Day.{Day, scale, bound, within_bound, load_of, with_target, start_target, largest_load}
use Rattle.demand.specs.Demand.{Assignment, EachFits, within_target}
use Rattle.answers.specs.declared.answer.Answer.{Answer}
use Rattle.answers.specs.declared.answer.Answer.TheVariants.{Plan, Long, None, Fault as Faulty}
use Rattle.answers.specs.Answers.{Reply, is_plan, is_long}
use Rattle.answers.specs.BestAnswers.{plan_in}
use Rattle.algorithm.specs.Rocks.{lowest}
use Rattle.algorithm.specs.Answer.{answer_to}
use Rattle.algorithm.specs.Best.{gives_plan, best_target, targets_run}
use Rattle.algorithm.specs.SoundDay.{AcceptedDay}
use Rattle.algorithm.proofs.BestLaws.{best_planned, refused_below, best_within, tried_within, some_run, few_runs}
use Rattle.algorithm.proofs.RockLaws.{lowest-allowed}
use Rattle.algorithm.proofs.SheetDay.{sound_day}
use Rattle.argument.specs.Answers.{SoundPlan, SoundAnswer, plan_sound, long_sound, none_sound}
use Rattle.argument.specs.Best.{StartPlanned, Vouched}
use Rattle.argument.proofs.Theorems.{whole_claim, rival_planned, else_over}

is_plan_lem : (a : Answer) → is_plan a ≡ true → a ≡ Plan (plan_in a)
is_plan_lem (Plan p) e = refl
is_plan_lem (Long l) e = clash {b = false} e refl
is_plan_lem (None n) e = clash {b = false} e refl
is_plan_lem (Faulty f) e = clash {b = false} e refl

plan_not_long : (a : Answer) → is_plan a ≡ true → is_long a ≡ false
plan_not_long (Plan p) e = refl
plan_not_long (Long l) e = clash {b = false} e refl
plan_not_long (None n) e = refl
plan_not_long (Faulty f) e = refl

-- A right answer that is a plan is a right plan.
plan_right : (d : Day) {a : Reply} → SoundAnswer d a → is_plan a.answer ≡ true
    → SoundPlan d (plan_in a.answer) a.places a.loads
plan_right d (plan_sound sound) e = sound
plan_right d (long_sound sound) e = clash {b = false} e refl
plan_right d (none_sound sound) e = clash {b = false} e refl

module _ (d : Day) (accepted : (t : ℕ) → AcceptedDay (with_target d t)) where
  -- ── the start ──

  -- Every job is at most the total, and so is every load besides what is booked.
  fits_at_start : EachFits (with_target d (start_target d))
  fits_at_start j l = omega (arith, sum-term d.jobs d.minutes j l)

  load_at_start : (a : ℕ → ℕ) (v : ℕ) → v < d.benches → load_of d a v ≤ start_target d
  load_at_start a v l =
      omega (
        arith,
        largest_bound d.benches d.booked v l,
        sum-on-le d.jobs (λ j. eqb (a j) v) d.minutes,
      )

  -- "where a plan always exists"
  pub start_planned : StartPlanned d
  start_planned =
      let day : Day = with_target d (start_target d) in
      let sound = sound_day day (accepted (start_target d)) fits_at_start in
      rival_planned day (accepted (start_target d)) (lowest day)
      (record { on_allowed = lowest-allowed day sound })
      (all_intro d.benches (λ v. within_target day (load_of day (lowest day) v))
      (λ v l. le-leb (load_of day (lowest day) v) (start_target d) (load_at_start (lowest day) v l)))

  -- ── the target found ──

  abbrev found : Day
  found = with_target d (best_target d)

  pub start_gives : gives_plan d (start_target d) ≡ true
  unfolding gives_plan
  start_gives = start_planned

  gives : is_plan (answer_to found).answer ≡ true
  unfolding gives_plan
  gives = best_planned d start_gives

  pub best_is_plan : (answer_to found).answer ≡ Plan (plan_in (answer_to found).answer)
  best_is_plan = is_plan_lem (answer_to found).answer gives

  pub best_sound : SoundPlan found (plan_in (answer_to found).answer) (answer_to found).places (answer_to found).loads
  best_sound = plan_right found (whole_claim found (accepted (best_target d))).sound gives

  refused : (t : ℕ) → suc t ≡ best_target d → is_plan (answer_to (with_target d t)).answer ≡ false
  unfolding gives_plan
  refused = refused_below d

  -- At the target one below, every assignment leaves some bench above it.
  least_load : (a : ℕ → ℕ) → Assignment d a → (t : ℕ) → t ≡ best_target d → t ≤ largest_load d a
  least_load a x zero e = omega arith
  least_load a x (suc t) e =
      let lower : Day = with_target d t in
      let over = else_over lower (accepted t) (refused t e) a (record { on_allowed = x.on_allowed }) in
      omega (arith, over.2, largest_bound d.benches (load_of d a) over.0 over.1)

  pub none_below : (a : ℕ → ℕ) → Assignment d a → best_target d ≤ largest_load d a
  none_below a x = least_load a x (best_target d) refl

  pub near_best : (a : ℕ → ℕ) → Assignment d a
      → scale d * (plan_in (answer_to found).answer).largest ≤ (5 * d.q + d.p) * largest_load d a
  near_best a x =
      let most : ℕ = (plan_in (answer_to found).answer).largest in
      let (v, l, e) = best_sound.one_of_them in
      let within : scale d * most ≤ bound found =
      leb-true (scale d * most) (bound found)
      (subst (λ (n : ℕ). within_bound found n ≡ true) e (best_sound.within_bound v l)) in
      omega (arith, within, mul-le-mul_left (5 * d.q + d.p) (none_below a x))

  pub vouched : start_target d < 2 ^ 30
      → Vouched d
      (record { target = best_target d; plan = plan_in (answer_to found).answer; runs = targets_run d })
  vouched small = record {
    its_plan = best_is_plan;
    each_fits = (whole_claim found (accepted (best_target d))).else_fits (plan_not_long (answer_to found).answer gives);
    refused_below = refused;
    none_below = none_below;
    near_best = near_best;
    runs_are = refl;
    some_run = some_run d;
    few_runs = few_runs d small;
    target_fits = omega (arith, best_within d);
    tried_fit = λ i l. omega (arith, tried_within d i l);
  }
