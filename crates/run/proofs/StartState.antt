-- The state with which the run starts.
--     begins_light, begins_ready     the tables of a day are ready for the turns, with the rocks that are left
--     started                        from the places after the peeling to the state
use Prim.Native.Nat.{ℕ, ◌+◌, ◌*◌, ◌≤◌, ◌<◌, ◌^◌}
use mathlib.Core.Path.{◌≡◌, refl, sym, ap, ◌∙◌}
use mathlib.Core.Bool.{Bool, ◌&&◌}
use mathlib.Core.List.{List}
use native.Mathlib.Omega.{arith}
use native.Mathlib.Nat.{mul-le-mul, le_refl}
use lib.ListN.{length, get_or}
use borrow.Author.Tests.{lt-ltb}
use Rattle.sums.specs.Sum.{sum, count}
use Rattle.sums.specs.Table.{table}
use Rattle.sums.proofs.SumLaws.{sum_bound}
use Rattle.sums.proofs.TableLaws.{get_or-table}
use Rattle.bits.specs.Bits.{is_set}
use Rattle.day.specs.Day.{Day, scale, bound}
use Rattle.algorithm.specs.Rocks.{lowest, highest, weight, small, limit}
use Rattle.algorithm.specs.SoundDay.{Uncrowded}
use Rattle.algorithm.specs.Start.{start}
use Rattle.algorithm.specs.States.{at_start}
use Rattle.algorithm.specs.Run.{board_of}
use Rattle.algorithm.proofs.RockGraph.{uncrowded_test}
use Rattle.loads.specs.Loads.{amount_on}
use Rattle.rocks.specs.declared.rocks.Limits.{Limits}
use Rattle.rocks.specs.declared.balancing.Balance.{Balance}
use Rattle.rocks.specs.BoardArrays.{Owned, Pebbles}
use Rattle.start.specs.StartArrays.{Fields, Placed}
use Rattle.run.specs.Held.{is_left, left_job, Begins, Ready, Held}
use Rattle.run.proofs.HeldLaws.{held_pebbles, held_owned}

-- So every load fits.
pub begins_light : (d : Day) (jobs : ℕ) (minutes allowed : List ℕ) → Fields d jobs minutes allowed
    → (v : ℕ) → scale d * d.booked v + sum d.jobs (weight d) < 2 ^ 62
begins_light d jobs minutes allowed F v =
    let scale_small : 3 * d.q ≤ 381 = omega (arith, F.bounded.q_small) in
    let each : (j : ℕ) → j < d.jobs → weight d j ≤ 381 * 1048576 =
    λ j h.
    let minutes-small : d.minutes j ≤ 1048576 = omega (arith, F.bounded.minutes_small j h) in
    mul-le-mul scale_small minutes-small in
    let booked-small : d.booked v ≤ 1073741824 = omega (arith, F.bounded.booked_small v) in
    let all-jobs : sum d.jobs (weight d) ≤ d.jobs * (381 * 1048576) = sum_bound d.jobs (381 * 1048576) (weight d) each in
    omega (arith, all-jobs, mul-le-mul F.bounded.few_jobs (le_refl (381 * 1048576)), mul-le-mul scale_small booked-small)

module _ (d : Day) (n : Limits) (minutes allowed amount job low high : List ℕ) (balance : List Balance)
    (burden : List ℕ) (rocks pebbles : List Bool)
    (B : Begins d n minutes allowed amount job low high balance burden rocks pebbles) where
  uncrowded : Uncrowded d
  uncrowded = uncrowded_test d B.sparse_day.sparse

  -- The limits of the day, and lists of the rocks that are left.
  left_limits : Limits
  left_limits = record {
    benches = d.benches;
    jobs = d.jobs;
    rocks = count d.jobs (is_left d);
    bound = bound d;
    small = small d;
    limit = limit d;
  }

  of_left : (ℕ → ℕ) → List ℕ
  of_left f = table (count d.jobs (is_left d)) (λ r. f (left_job d r))

  begins_ready : Ready d left_limits (of_left (lowest d)) (of_left (highest d)) (of_left (weight d)) amount pebbles allowed
  unfolding left_limits of_left
  begins_ready =
      let F = B.fields in
      let k = count d.jobs (is_left d) in
      record {
        sound = B.sparse_day.day_rocks.sound;
        uncrowded = uncrowded;
        few_benches = F.bounded.few_benches;
        few_jobs = F.bounded.few_jobs;
        light = begins_light d n.jobs minutes allowed F;
        benches = refl;
        jobs = refl;
        rocks = refl;
        bounds = refl;
        smalls = refl;
        limits = refl;
        lows = λ r h. get_or-table k (λ r. lowest d (left_job d r)) r 0 h;
        highs = λ r h. get_or-table k (λ r. highest d (left_job d r)) r 0 h;
        heavies = λ r h. get_or-table k (λ r. weight d (left_job d r)) r 0 h;
        amounts = B.amounts;
        pebbly = B.pebbly;
        allowing = λ j v h l. sym (F.allows j v h ∙ ap (λ (t : Bool). t && is_set 64 (get_or allowed j 0) v) (lt-ltb v d.benches l));
      }

  module _ (left : List Bool) (place : List ℕ) (P : Placed d (start d) left place) where
    started_held : Held d 0 (start d) left place
    started_held = record { reached = at_start B.sparse_day.short B.sparse_day.sparse; lefts = P.lefts; room = P.place_room; places = P.places }

    -- The rocks that are left, as a list of the definition.
    pub started_places : Held d 0 (start d) (start d).left place
    started_places = record {
      reached = started_held.reached;
      lefts = λ j h. refl;
      room = P.place_room;
      places = P.places;
    }

    pub started_pebbles : Pebbles (board_of d (start d)) pebbles allowed place
    started_pebbles =
        held_pebbles d left_limits (of_left (lowest d)) (of_left (highest d)) (of_left (weight d)) amount pebbles allowed begins_ready
        0 (start d) left place started_held

    -- The weights of the jobs are added to those of the booked minutes.
    pub started_owned : length burden ≡ 64 → (own : List ℕ)
        → ((v : ℕ) → v < length burden → get_or burden v 0 + sum n.jobs (amount_on amount left place v) < 2 ^ 63
        → get_or own v 0 ≡ get_or burden v 0 + sum n.jobs (amount_on amount left place v))
        → Owned (board_of d (start d)) own
    started_owned sized own sums =
        held_owned d left_limits (of_left (lowest d)) (of_left (highest d)) (of_left (weight d)) amount pebbles allowed begins_ready
        0 (start d) left place started_held own
        (λ v h fits.
        let begun = B.burdens v h in
        let same : sum n.jobs (amount_on amount left place v) ≡ sum d.jobs (amount_on amount left place v) =
        ap (λ (k : ℕ). sum k (amount_on amount left place v)) B.fields.jobs_are in
        let there = sums v (omega (arith, sized, B.fields.bounded.few_benches)) (omega (arith, begun, same, fits)) in
        omega (arith, there, begun, same))
