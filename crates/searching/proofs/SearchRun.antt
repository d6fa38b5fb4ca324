-- The search on arrays, from run to run.
--     total-more           adding up, entry by entry
--     start_is             the start of a lent day
--     search_starts        what is kept after the run of the start
--     half-small           the middle of the bounds is a target of a sheet
--     told_is              what a decision says of its target
--     after_plan_lem, after_refusal_lem  what is kept after a run of the middle
--     search_ends          what is found where the bounds have met
use Prim.Native.Nat.{ℕ, suc, ◌+◌, ◌-◌, ◌^◌, ◌≤◌, ◌<◌}
use native.Mathlib.Omega.{arith}
use native.Mathlib.Numerals.{unary_clauses}
use mathlib.Core.Path.{◌≡◌, refl, sym, ap, subst, ◌∙◌}
use mathlib.Core.Bool.{true, false}
use mathlib.Core.List.{List, [], ◌∷◌}
use lib.ListN.{length, get_or}
use Rattle.bools.proofs.BoolLaws.{clash}
use Rattle.sums.specs.Sum.{sum, largest}
use Rattle.sums.proofs.SumLaws.{sum_cong}
use Rattle.sums.proofs.LargestLaws.{largest_cong}
use Rattle.fields.specs.declared.sheet.Head.{Head}
use Rattle.day.specs.Day.{Day, with_target, total_minutes, largest_booking, start_target}
use Rattle.answers.specs.Answers.{is_plan}
use Rattle.algorithm.specs.Run.{Outcome, planned, long, blocked, run}
use Rattle.algorithm.specs.Answer.{shown}
use Rattle.algorithm.specs.Best.{gives_plan, Search, middle, after_plan, after_refusal, seek, at_start, searched}
use Rattle.algorithm.specs.Best.{best_target}
use Rattle.algorithm.proofs.BestLaws.{seek-plan, seek-refusal, seek-enough, tried_more, few_runs}
use Rattle.arrays.specs.Arrays.{plus_of}
use Rattle.decisions.specs.declared.decision.Decision.{Decision}
use Rattle.decisions.specs.declared.decision.Decision.TheVariants.{Plan, Long, None as Refused}
use Rattle.decisions.specs.declared.decision.Decided.{Decided}
use Rattle.decisions.specs.Decision.{decision_of, Lent, Decides}
use Rattle.searching.specs.declared.kept.Kept.{Kept}
use Rattle.std.specs.Prelude.{Option, Some, None, is_some, unwrap_or}
use Rattle.searching.specs.Searching.{total_of, start_of, head_at, moves_in, LentSearch, plan_decided}
use Rattle.searching.specs.Searching.{half, lowered_to, raised_to, Searching, Finds}

-- ── the start ──

pub total-more : (n : ℕ) (xs : List ℕ) {k k' x : ℕ} → k ≡ total_of n xs → x ≡ get_or xs n 0 → k' ≡ plus_of k x
    → k' ≡ total_of (n + 1) xs
total-more n xs e v p = simp unary_clauses (omega (arith, e, v, p))

module _ (d : Day) (h : Head) (jobs : ℕ) (minutes allowed booked : List ℕ)
    (L : LentSearch d h jobs minutes allowed booked) where
  -- Any target will do to see what the tables hold.
  lent : Lent (with_target d 0) (head_at h 0) jobs minutes allowed booked
  lent = L.at_any 0 (omega arith)

  pub lent_at : (t : ℕ) → t < 2 ^ 30 → {y : Head} → y ≡ head_at h t → Lent (with_target d t) y jobs minutes allowed booked
  lent_at t small e =
      subst (λ (y : Head). Lent (with_target d t) y jobs minutes allowed booked) (sym e) (L.at_any t small)

  pub start_is : start_of jobs h.benches minutes booked ≡ start_target d
  start_is =
      let all : sum jobs (λ i. get_or minutes i 0) ≡ total_minutes d =
      ap (λ (n : ℕ). sum n (λ i. get_or minutes i 0)) lent.fields.jobs_are
      ∙ sum_cong d.jobs (λ i. get_or minutes i 0) d.minutes lent.fields.minutes_are in
      let most : largest h.benches (λ v. get_or booked v 0) ≡ largest_booking d =
      ap (λ (n : ℕ). largest n (λ v. get_or booked v 0)) lent.benches_are
      ∙ largest_cong d.benches (λ v. get_or booked v 0) d.booked lent.booked_are in
      omega (arith, all, most, L.start_fits)

-- ── what a decision says of a target ──

told-shown : (d : Day) (o : Outcome) → is_some (moves_in (decision_of d o)) ≡ is_plan (shown d o).answer
told-shown d (planned ps moves) = refl
told-shown d (long j) = refl
told-shown d (blocked set moves) = refl

plan_told : (a : Decision) (moves : ℕ) → moves_in a ≡ Some moves → a ≡ Plan (record { moves = moves })
plan_told (Plan p) moves e = let same : p.moves ≡ moves = cc in rw (sym same) refl
plan_told (Long l) moves e = cc
plan_told (Refused n) moves e = cc

module _ (d : Day) (t : ℕ) {r : Decided} (D : Decides (with_target d t) r) where
  pub told_is : is_some (moves_in r.decision) ≡ gives_plan d t
  unfolding gives_plan
  told_is =
      ap (λ (a : Decision). is_some (moves_in a)) D.decision ∙ told-shown (with_target d t) (run (with_target d t))

  pub plan_kept : (moves : ℕ) → moves_in r.decision ≡ Some moves
      → Decides (with_target d t) (plan_decided moves r.places)
  plan_kept moves e =
      let told = plan_told r.decision moves e in
      record {
        decision = sym told ∙ D.decision;
        places = D.places;
        one_to_a_job = λ q same. D.one_to_a_job _ told;
      }

some_told : (m : Option ℕ) {moves : ℕ} → is_some m ≡ true → moves ≡ unwrap_or m 0 → m ≡ Some moves
some_told (Some x) p u = ap Some (sym u)
some_told None p u = clash {b = false} p refl

-- ── from run to run ──

module _ (d : Day) where
  pub search_starts : gives_plan d (start_target d) ≡ true → (start : ℕ) → start ≡ start_target d
      → {r : Decided} {m : Option ℕ} {moves : ℕ} → Decides (with_target d start) r → m ≡ moves_in r.decision
      → moves ≡ unwrap_or m 0
      → Searching d
      (record { low = 0; found = record { target = start; runs = 1; moves = moves; places = r.places } })
  unfolding searched
  search_starts gives start e {r} {m} {moves} D told u =
      let D₀ = subst (λ (t : ℕ). Decides (with_target d t) r) e D in
      let all : start_target d ≡ start_target d - 0 = omega arith in
      let given = some_told m (ap is_some told ∙ told_is d (start_target d) D₀ ∙ gives) u in
      rw e
      (record {
        tried = start_target d ∷ [];
        counted = refl;
        in_order = omega arith;
        from_start = omega arith;
        goes_on = ap (λ (n : ℕ). seek n d (at_start d)) all;
        planned = plan_kept d (start_target d) D₀ moves (sym told ∙ given);
      })

  module _ (small : start_target d < 2 ^ 30) (k : Kept) (S : Searching d k) (apart : k.low < k.found.target) where
    abbrev at : Search
    at = record { low = k.low; high = k.found.target; tried = S.tried }

    -- One run fewer than the bounds are apart.
    abbrev left : ℕ
    left = k.found.target - k.low - 1

    goes_on : searched d ≡ seek (suc left) d at
    goes_on =
        let more : k.found.target - k.low ≡ suc left = omega arith in
        S.goes_on ∙ ap (λ (n : ℕ). seek n d at) more

    one_more : plus_of k.found.runs 1 ≡ suc (length S.tried)
    one_more =
        let few : length S.tried ≤ 31 = omega (
          arith,
          few_runs d small,
          ap (λ (s : Search). length s.tried) goes_on,
          tried_more d (suc left) at,
        ) in
        omega (arith, few, S.counted)

    -- The middle, as the program finds it: no sum of the two bounds is made.
    half_is : half k ≡ middle at
    half_is = omega arith

    pub half-small : half k < 2 ^ 30
    half-small = omega (arith, S.from_start)

    search_lowered : gives_plan d (half k) ≡ true → {moves : ℕ} {places : List ℕ}
        → Decides (with_target d (half k)) (plan_decided moves places) → Searching d (lowered_to k (half k) moves places)
    search_lowered gives {moves} {places} D =
        let g = subst (λ (t : ℕ). gives_plan d t ≡ true) half_is gives in
        let P = subst (λ (t : ℕ). Decides (with_target d t) (plan_decided moves places)) half_is D in
        subst (λ (t : ℕ). Searching d (lowered_to k t moves places)) (sym half_is)
        (record {
          tried = middle at ∷ S.tried;
          counted = one_more;
          in_order = omega arith;
          from_start = omega (arith, S.from_start);
          goes_on = goes_on ∙ seek-plan d at left apart g ∙ seek-enough left d (after_plan at) (omega arith);
          planned = P;
        })

    search_raised : gives_plan d (half k) ≡ false → Searching d (raised_to k (half k))
    search_raised refuses =
        let g = subst (λ (t : ℕ). gives_plan d t ≡ false) half_is refuses in
        let up : plus_of (half k) 1 ≡ suc (middle at) = omega (arith, S.from_start, half_is) in
        subst (λ (low : ℕ). Searching d (raised_from low)) (sym up)
        (record {
          tried = middle at ∷ S.tried;
          counted = one_more;
          in_order = omega arith;
          from_start = S.from_start;
          goes_on = goes_on ∙ seek-refusal d at left apart g ∙ seek-enough left d (after_refusal at) (omega arith);
          planned = S.planned;
        })
      where
        raised_from : ℕ → Kept
        raised_from low =
            record {
              low = low;
              found = record {
                target = k.found.target;
                runs = plus_of k.found.runs 1;
                moves = k.found.moves;
                places = k.found.places;
              };
            }

    module _ {r : Decided} (D : Decides (with_target d (half k)) r)
        {told : Option ℕ} (e : told ≡ moves_in r.decision) where
      pub after_plan_lem : (moves : ℕ) → told ≡ Some moves → {k' : Kept}
          → k' ≡ lowered_to k (half k) moves r.places → Searching d k'
      after_plan_lem moves is-plan next =
          let its = sym e ∙ is-plan in
          let gives = sym (told_is d (half k) D) ∙ ap is_some its in
          subst (Searching d) (sym next) (search_lowered gives (plan_kept d (half k) D moves its))

      pub after_refusal_lem : told ≡ None → {k' : Kept} → k' ≡ raised_to k (half k) → Searching d k'
      after_refusal_lem refused next =
          subst (Searching d) (sym next) (search_raised (sym (told_is d (half k) D) ∙ ap is_some (sym e ∙ refused)))

  pub search_ends : (k : Kept) → Searching d k → k.found.target ≤ k.low → Finds d k.found
  unfolding seek
  search_ends k S met =
      let none : k.found.target - k.low ≡ 0 = omega arith in
      let over : searched d ≡ record { low = k.low; high = k.found.target; tried = S.tried } =
      S.goes_on ∙ ap (λ (n : ℕ). seek n d (record { low = k.low; high = k.found.target; tried = S.tried })) none in
      let target : k.found.target ≡ best_target d = sym (ap (λ (s : Search). s.high) over) in
      record {
        target_is = target;
        runs_are = S.counted ∙ sym (ap (λ (s : Search). length s.tried) over);
        planned = subst (λ (t : ℕ). Decides (with_target d t) (plan_decided k.found.moves k.found.places)) target
            S.planned;
      }
