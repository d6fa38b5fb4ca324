-- Request S-6 at the C door: "Our own plans and sets for the same sheet and target always pass." The plans.
--     own_plan_checked      the table of places after a plan, one entry a job, is passed: the word is 1, and the two
--                           numbers are the plan's largest load and fullest bench
use Prim.Native.Nat.{ℕ, ◌*◌, ◌≤◌, ◌<◌}
use mathlib.Core.Path.{◌≡◌, refl, sym, subst, ◌∙◌}
use mathlib.Core.List.{List}
use native.Mathlib.Omega.{arith}
use lib.ListN.{length, take}
use Rattle.fields.specs.Contents.{Contents}
use Rattle.day.specs.Day.{Day, day_of}
use Rattle.tables.specs.Tables.{entries_of, entry_of}
use Rattle.tables.proofs.EntryLaws.{entry_front, entries_front}
use Rattle.door.specs.DoorClaim.{RoomFor, PlanInBytes, DoorClaim}
use Rattle.list_check.specs.ListClaim.{GoodPlaces, GreatestLoad}
use Rattle.list_check.proofs.PlacesLaws.{greatest_only, good_same, greatest_same}
use Rattle.list_promise.specs.ListDoorClaim.{RoomForList, ListDoorClaim}
use Rattle.own_answers.proofs.OwnPlans.{Told, plan_good, plan_greatest}

told_bytes : (d : Day) (places loads : List ℕ) {places' loads' numbers' : List ℕ}
    → PlanInBytes d places loads places' loads' numbers'
    → Told d (entry_of places') (entry_of loads') (entry_of numbers' 0) (entry_of numbers' 2)
told_bytes d places loads right =
    record {
      assignment = right.assignment;
      its_loads = right.its_loads;
      within_bound = right.within_bound;
      greatest = right.greatest;
      fullest_bench = right.fullest_bench;
      fullest_load = right.fullest_load;
      lower_less = right.lower_less;
    }

-- The tables of the plan; the word and the answer's table of the check.
module _ (s places loads numbers : List ℕ) {places' loads' numbers' : List ℕ}
    (claim : DoorClaim s places loads numbers 1 places' loads' numbers')
    (c : Contents) (room : RoomFor s places loads numbers c)
    (answer : List ℕ) {r : ℕ} {answer' : List ℕ}
    (checked : ListDoorClaim s (take (8 * length c.jobs) places') answer r answer') where
  abbrev d : Day
  d = day_of c

  abbrev list : List ℕ
  list = take (8 * d.jobs) places'

  right : PlanInBytes d places loads places' loads' numbers'
  right = claim.plan_right c room refl

  same : (j : ℕ) → j < d.jobs → entry_of places' j ≡ entry_of list j
  same j l = sym (entry_front d.jobs j places' l)

  sized : entries_of list ≡ d.jobs
  sized = entries_front d.jobs places' (omega (arith, right.as_many_places, room.place_to_a_job))

  good : GoodPlaces d (entries_of list) (entry_of list)
  good =
      subst (λ (n : ℕ). GoodPlaces d n (entry_of list)) (sym sized)
      (good_same d (entry_of places') (entry_of list) same
      (plan_good d (entry_of places') (entry_of loads') (told_bytes d places loads right)))

  greatest : GreatestLoad d (entry_of list) (entry_of numbers' 0) (entry_of numbers' 2)
  greatest =
      greatest_same d (entry_of places') (entry_of list) same
      (plan_greatest d (entry_of places') (entry_of loads') (told_bytes d places loads right))

  pub own_plan_checked : 16 ≤ length answer
      → (r ≡ 1) × (entry_of answer' 0 ≡ entry_of numbers' 0) × (entry_of answer' 1 ≡ entry_of numbers' 2)
  own_plan_checked enough =
      let t : RoomForList s answer c = record { sheet_accepted = room.sheet_accepted; two_numbers = enough } in
      let passed : r ≡ 1 = checked.good_passed c t good in
      let (l, f) = greatest_only d (entry_of list) (checked.passed_with c t passed) in
      let (m, g) = greatest_only d (entry_of list) greatest in
      (passed, l ∙ sym m, f ∙ sym g)
