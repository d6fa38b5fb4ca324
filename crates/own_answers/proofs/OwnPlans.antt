-- Request S-6: "Our own plans and sets for the same sheet and target always pass." The plans.
--     Told d a load largest fullest     the assignment a is within the bound, and these are its loads, the greatest of
--                           them, and the lowest bench that has it
--     plan_good, plan_greatest      then a is good, and these are its greatest load
--     passed_as p           passed, with the largest load and the fullest bench of the plan p
--     own_plan_passes       a plan's places, one to a job, are passed with its own numbers; of whatever call the demand
--                           holds
--     own_plan_answered     the same of a call of the planner, by its equation: the places that it has written
use Prim.Native.Nat.{ℕ, ◌≤◌, ◌<◌}
use mathlib.Core.Path.{◌≡◌, refl, sym, ap, ap₂, subst, ◌∙◌}
use mathlib.Core.Bool.{true}
use mathlib.Core.List.{List}
use native.Mathlib.Omega.{arith}
use lib.ListN.{length, get_or, take}
use lib.Seq.{get_or-take, length-take-le}
use Rattle.bools.proofs.BoolLaws.{clash}
use Rattle.fields.specs.Contents.{Contents}
use Rattle.frame.proofs.AcceptedLaws.{accepted_sound}
use Rattle.day.specs.Day.{Day, day_of, place_in, load_of, within_bound}
use Rattle.demand.specs.Demand.{Assignment}
use Rattle.answers.specs.declared.answer.Answer.{Answer}
use Rattle.answers.specs.declared.answer.Answer.TheVariants.{Plan}
use Rattle.answers.specs.declared.answer.Filled.{Filled}
use Rattle.answers.specs.declared.answer.PlanAnswer.{PlanAnswer}
use Rattle.answers.specs.declared.check.ListAnswer.{ListAnswer}
use Rattle.answers.specs.declared.check.ListAnswer.TheVariants.{Passed}
use Rattle.answers.specs.Answers.{Reply, Answered}
use Rattle.algorithm.specs.Answer.{answer_to, answer_for}
use Rattle.algorithm.proofs.SheetDay.{accepted_day}
use Rattle.argument.specs.Answers.{SoundAnswer, plan_sound, long_sound, none_sound}
use Rattle.argument.proofs.Theorems.{whole_claim}
use Rattle.blocking.specs.Claim.{Answerable, a_plan, PlanInTables, PlannerClaim}
use Rattle.blocking.proofs.Claim.{answer_given, answered_claim, answered_room}
use Rattle.list_check.specs.ListCheck.{check_list}
use Rattle.list_check.specs.ListClaim.{GoodPlaces, GreatestLoad}
use Rattle.list_check.proofs.PlacesLaws.{greatest_only, good_same, greatest_same}
use Rattle.list_check.proofs.ListLaws.{check_accepted, good_listed}

abbrev pub passed_as : PlanAnswer → ListAnswer
passed_as p = Passed (record { largest = p.largest; fullest = p.fullest })

-- ── what the demand says of a plan ──

-- A plan and the loads that are told of it.
pub record Told (d : Day) (a load : ℕ → ℕ) (largest fullest : ℕ) : Type 0 where
  pub assignment : Assignment d a
  pub its_loads : (v : ℕ) → v < d.benches → load v ≡ load_of d a v
  pub within_bound : (v : ℕ) → v < d.benches → within_bound d (load v) ≡ true
  pub greatest : (v : ℕ) → v < d.benches → load v ≤ largest
  pub fullest_bench : fullest < d.benches
  pub fullest_load : load fullest ≡ largest
  pub lower_less : (v : ℕ) → v < fullest → load v < largest

module _ (d : Day) (a load : ℕ → ℕ) {l f : ℕ} (right : Told d a load l f) where
  pub plan_good : GoodPlaces d d.jobs a
  plan_good =
      record {
        one_to_a_job = refl;
        assignment = right.assignment;
        within_bound = λ v h.
            subst (λ (k : ℕ). within_bound d k ≡ true) (right.its_loads v h) (right.within_bound v h);
      }

  pub plan_greatest : GreatestLoad d a l f
  plan_greatest =
      let most : load_of d a f ≡ l = sym (right.its_loads f right.fullest_bench) ∙ right.fullest_load in
      record {
        greatest = λ v h. omega (arith, right.its_loads v h, right.greatest v h);
        one_of_them = (f, right.fullest_bench, most);
        fullest_bench = right.fullest_bench;
        fullest_load = most;
        lower_less = λ v h.
            omega (arith, right.its_loads v (omega (arith, right.fullest_bench)), right.lower_less v h);
      }

told_tables : (d : Day) (p : PlanAnswer) (places loads : List ℕ) {places' loads' : List ℕ}
    → PlanInTables d p places loads places' loads'
    → Told d (place_in places') (λ v. get_or loads' v 0) p.largest p.fullest
told_tables d p places loads right =
    record {
      assignment = right.assignment;
      its_loads = right.its_loads;
      within_bound = right.within_bound;
      greatest = right.greatest;
      fullest_bench = right.fullest_bench;
      fullest_load = right.fullest_load;
      lower_less = right.lower_less;
    }

-- ── from the bytes ──

module _ (s places loads : List ℕ) where
  pub own_plan_passes : {r : Answer} {places' loads' : List ℕ} → PlannerClaim s places loads r places' loads'
      → (c : Contents) → Answerable s places loads c → (p : PlanAnswer) → r ≡ Plan p
      → check_list s (take (length c.jobs) places') ≡ passed_as p
  own_plan_passes {places' = places'} claim c can p planned =
      let d : Day = day_of c in
      let right = claim.plan_right c can p planned in
      let told = told_tables d p places loads right in
      let list : List ℕ = take d.jobs places' in
      let sized : length list ≡ d.jobs =
      length-take-le d.jobs places' (omega (arith, right.as_many_places, can.place_to_a_job)) in
      let same : (j : ℕ) → j < d.jobs → place_in places' j ≡ place_in list j =
      λ j l. sym (get_or-take d.jobs places' j 0 l) in
      let good : GoodPlaces d (length list) (place_in list) =
      subst (λ (n : ℕ). GoodPlaces d n (place_in list)) (sym sized)
      (good_same d (place_in places') (place_in list) same (plan_good d (place_in places') _ told)) in
      let greatest : GreatestLoad d (place_in list) p.largest p.fullest =
      greatest_same d (place_in places') (place_in list) same (plan_greatest d (place_in places') _ told) in
      let (l, f) = greatest_only d (place_in list) greatest in
      check_accepted s list c can.sheet_accepted
      ∙ good_listed d list good
      ∙ ap₂ (λ (a b : ℕ). Passed (record { largest = a; fullest = b })) (sym l) (sym f)

  -- A plan has a place for each job.
  plan_places : {d : Day} {a : Reply} → SoundAnswer d a → (p : PlanAnswer) → a.answer ≡ Plan p
      → length a.places ≡ d.jobs
  plan_places (plan_sound sound) p e = sound.one_to_a_job
  plan_places (long_sound sound) p e = clash {b = true} refl cc
  plan_places (none_sound sound) p e = clash {b = true} refl cc

  pub own_plan_answered : {r : Filled} {places' loads' : List ℕ}
      → Answered (answer_for s (length places) (length loads)) r places loads places' loads'
      → (p : PlanAnswer) → r.answer ≡ Plan p
      → check_list s (take r.places places') ≡ passed_as p
  own_plan_answered {r} {places'} {loads'} called p planned =
      let claim = answered_claim s places loads r places' loads' called in
      let (c, can) =
      answered_room (subst (λ (a : Answer). PlannerClaim s places loads a places' loads') planned claim) (a_plan p) in
      let given : answer_for s (length places) (length loads) ≡ answer_to (day_of c) =
      answer_given s (length places) (length loads) c
      can.sheet_accepted can.place_to_a_job can.load_to_a_bench in
      let count : r.places ≡ length c.jobs =
      called.places_written ∙ ap (λ (a : Reply). length a.places) given
      ∙ plan_places (whole_claim (day_of c) (accepted_day c (accepted_sound s c can.sheet_accepted))).sound p
      (sym (ap (λ (a : Reply). a.answer) given) ∙ sym called.answer ∙ planned) in
      ap (λ (n : ℕ). check_list s (take n places')) count ∙ own_plan_passes claim c can p planned
