-- What the planner shows of an outcome: loads, largest load and the list of benches.
--     blocking_cong        sets with the same benches block alike
--     plan-shown           the loads shown of an assignment within the bound are its loads, the largest is the greatest
--                          of them, and the fullest bench the lowest that has it
--     none-shown           the benches shown of a blocking set rise, are the day's, and block
use Prim.Native.Nat.{ℕ, ◌*◌, ◌≤◌, ◌<◌}
use mathlib.Core.Path.{◌≡◌, sym, ap, ◌∙◌}
use mathlib.Core.Logic.{inl, inr}
use mathlib.Core.Bool.{Bool, true, ◌&&◌}
use mathlib.Core.List.{List}
use native.Mathlib.Omega.{arith}
use lib.ListN.{length, get_or}
use Rattle.bools.proofs.BoolLaws.{split}
use Rattle.sums.specs.Sum.{on, sum, count}
use Rattle.sums.specs.Members.{members}
use Rattle.sums.proofs.SumLaws.{sum_cong}
use Rattle.sums.proofs.CountLaws.{count_cong}
use Rattle.sums.proofs.SearchLaws.{all_elim, all_cong}
use Rattle.sums.proofs.TableLaws.{length-table, get_or-table}
use Rattle.sums.proofs.LargestLaws.{largest_bound, largest-at, fullest-is}
use Rattle.sums.proofs.MembersLaws.{length-members, member_below, members-rise}
use Rattle.day.specs.Day.{Day, heavy, light, place_in, load_of, loads_of, largest_of, fullest_of, within_bound, move_bound}
use Rattle.demand.specs.Demand.{Assignment, keeps_bound, Placement, kept_inside, lies_inside, Blocking}
use Rattle.answers.specs.Answers.{one_of}
use Rattle.answers.proofs.SetLaws.{one_of-members}
use Rattle.argument.specs.Answers.{SoundPlan, SoundNone}

module _ (d : Day) (allowed-below : (j v : ℕ) → d.allows j v ≡ true → v < d.benches) where
  -- A placement puts heavy jobs on the day's benches only.
  pub blocking_cong : (f g : ℕ → Bool) → ((v : ℕ) → v < d.benches → f v ≡ g v) → Blocking d f → Blocking d g
  blocking_cong f g same blocks =
      let counts : count d.benches f ≡ count d.benches g = count_cong d.benches f g same in
      record {
        some_bench = omega (arith, counts, blocks.some_bench);
        heavier = λ place placed.
            omega (arith, counts, ap (λ (k : ℕ). k * d.target) counts, blocks.heavier place placed, booked-same, heavy-same place placed, light-same);
      }
    where
      booked-same : sum d.benches (λ v. on (f v) (d.booked v)) ≡ sum d.benches (λ v. on (g v) (d.booked v))
      booked-same = sum_cong d.benches _ _ (λ v l. ap (λ (b : Bool). on b (d.booked v)) (same v l))

      heavy-same : (place : ℕ → ℕ) → Placement d place
          → sum d.jobs (λ j. on (heavy d j && f (place j)) (d.minutes j)) ≡ sum d.jobs (λ j. on (heavy d j && g (place j)) (d.minutes j))
      heavy-same place placed = sum_cong d.jobs _ _ (λ j l. elim (split (heavy d j)) [
        | inl is-heavy ↦ rw (is-heavy, same (place j) (allowed-below j (place j) (placed.on_allowed j l is-heavy)))
        | inr is-light ↦ rw is-light
      ])

      light-same : sum d.jobs (λ j. on (light d j && lies_inside d f j) (d.minutes j)) ≡ sum d.jobs (λ j. on (light d j && lies_inside d g j) (d.minutes j))
      light-same = sum_cong d.jobs _ _ (λ j l. ap (λ (b : Bool). on (light d j && b) (d.minutes j))
          (all_cong d.benches (kept_inside d f j) (kept_inside d g j) (λ v lv. rw (same v lv))))

  pub none-shown : (set : ℕ → Bool) (moves : ℕ) → Blocking d set → moves ≤ move_bound d → SoundNone d (members d.benches set) moves
  none-shown set moves blocks few =
      let m : ℕ = d.benches in
      let sized : length (members m set) ≡ count m set = length-members m set in
      record {
        some_bench = omega (arith, blocks.some_bench);
        rising = λ i k l lk. members-rise m set i k 0 l (omega arith);
        of_the_day = λ i l. member_below m set i 0 (omega arith);
        blocking = blocking_cong set (one_of (members m set)) (λ v l. sym (one_of-members m set v l)) blocks;
        few_moves = few;
      }

-- ── the loads of a plan ──

pub plan-shown : (d : Day) (places : List ℕ) (moves : ℕ) → 0 < d.benches → length places ≡ d.jobs → Assignment d (place_in places)
    → keeps_bound d (place_in places) ≡ true → moves ≤ move_bound d
    → SoundPlan d (record { largest = largest_of d places; moves = moves; fullest = fullest_of d places })
    places (loads_of d places)
plan-shown d places moves some sized assigned keeps few =
    let F = (fullest-is d.benches (load_of d (place_in places)) some).0 in
    record {
      one_to_a_job = sized;
      assignment = assigned;
      one_to_a_bench = length-table d.benches _;
      its_loads = its-load;
      greatest = λ v l. rw (its-load v l) (largest_bound d.benches (load_of d (place_in places)) v l);
      one_of_them = let (v, l, e) = largest-at d.benches (load_of d (place_in places)) some in (v, l, its-load v l ∙ e);
      fullest_bench = F.one_of_them;
      fullest_load = its-load (fullest_of d places) F.one_of_them ∙ F.has_largest;
      lower_less = λ v l.
          omega (arith, its-load v (omega (arith, F.one_of_them)), F.lower_less v l, F.has_largest);
      within_bound = λ v l. rw (its-load v l) (all_elim d.benches (λ v. within_bound d (load_of d (place_in places) v)) keeps v l);
      few_moves = few;
    }
  where
    its-load : (v : ℕ) → v < d.benches → get_or (loads_of d places) v 0 ≡ load_of d (place_in places) v
    its-load v l = get_or-table d.benches _ v 0 l
