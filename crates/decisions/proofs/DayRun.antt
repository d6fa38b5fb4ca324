-- From the tables of a day to the decision.
--     crowded_set          the component of a crowded bench, as a decision
--     budget-is            the budget of the run
--     long_decided, not_long, crowded_decided, not_crowded     a long job, a crowded component, or neither
--     marks-are, pebble-marks, weighed, burdened     kinds and weights of the jobs, and weights of the booked minutes
--     limit-benches, limit-jobs, limit_bound, limit-small, limit-limit     the limits
--     jobs_gathered, rocks_gathered     the rocks of a day, from their marks
use Prim.Native.Nat.{ℕ, ◌-◌, ◌*◌, ◌^◌, ◌≤◌, ◌<◌}
use mathlib.Core.Path.{◌≡◌, refl, sym, ap, ap₂, ◌∙◌}
use mathlib.Core.Bool.{Bool, true, false}
use mathlib.Core.List.{List}
use Rattle.std.specs.Prelude.{Option, Some, None}
use native.Mathlib.Omega.{arith}
use lib.ListN.{length, get_or, replicate, get_or-replicate}
use lib.Dec.{ltb}
use borrow.Author.Tests.{lt-ltb, le-ltb}
use Rattle.bools.proofs.BoolLaws.{clash}
use Rattle.sums.specs.Sum.{count}
use Rattle.sums.specs.Search.{least}
use Rattle.sums.specs.Members.{members}
use Rattle.sums.proofs.CountLaws.{count_cong, count-le}
use Rattle.fields.specs.declared.sheet.Head.{Head}
use Rattle.day.specs.Day.{Day, pebble, scale, bound, long_job}
use Rattle.answers.specs.Answers.{set_of}
use Rattle.answers.proofs.SetLaws.{set_of-members}
use Rattle.algorithm.specs.Rocks.{rock, weight, small, limit}
use Rattle.algorithm.specs.SoundDay.{SoundDay}
use Rattle.algorithm.specs.Start.{component, crowded_bench}
use Rattle.algorithm.specs.Run.{budget}
use Rattle.algorithm.proofs.Budget.{run_long, run-crowded}
use Rattle.arrays.specs.Arrays.{plus_of, times_of, filled}
use Rattle.arrays.proofs.FilledLaws.{get_or-filled}
use Rattle.sets.specs.Sets.{lowest_of, highest_of}
use Rattle.rocks.specs.declared.rocks.Limits.{Limits}
use Rattle.rocks.specs.RockArrays.{first}
use Rattle.rocks.specs.declared.balancing.Balance.{Balance}
use Rattle.rocks.specs.declared.balancing.Balance.TheVariants.{Tree}
use Rattle.rocks.specs.SpreadArrays.{Shows, is_crowded}
use Rattle.rocks.specs.DayArrays.{DayRocks, day_rocks, balance_in}
use Rattle.start.specs.StartArrays.{rock_of, pebble_of, limits_of, Fields, JobsOf}
use Rattle.arrays.proofs.NumberLaws.{times_exact}
use Rattle.start.proofs.StartLaws.{bound_is, small_is, limit_is}
use Rattle.start.proofs.StartRun.{rocks_are, pebbles_are, weights-are, gathered_jobs, gathered_rocks}
use Rattle.start.proofs.StartRun.{long_job_is}
use Rattle.rocks.proofs.ComponentRun.{crowded-bench_is}
use Rattle.rocks.proofs.FirstLaws.{first-some, first-none}
use Rattle.decisions.specs.declared.decision.Decision.{Decision}
use Rattle.decisions.specs.declared.decision.Decision.TheVariants.{Long, None as Blocked}
use Rattle.decisions.specs.Decision.{decision_of, places_in, Lent, Decides}

pub crowded_set : (d : Day) (v set : ℕ) → set < 2 ^ 64 → Shows d.benches (component d v) set
    → Blocked (record { set = set; moves = 0 })
    ≡ Blocked (record { set = set_of (members d.benches (component d v)); moves = 0 })
crowded_set d v set fits X =
    ap (λ (k : ℕ). Blocked (record { set = k; moves = 0 }))
    (set_of-members d.benches (component d v) X.room set fits (λ u h. X.entries u))

pub budget-is : (d : Day) (jobs benches : ℕ) (minutes allowed : List ℕ) → Fields d jobs minutes allowed
    → benches ≡ d.benches
    → (pebbles : List Bool) → ((j : ℕ) → j < d.jobs → get_or pebbles j false ≡ pebble d j)
    → {k fuel : ℕ} → k ≡ count jobs (λ i. get_or pebbles i false) → fuel ≡ times_of benches k → fuel ≡ budget d
budget-is d jobs benches minutes allowed F eb pebbles are {k} ek ef =
    let so-many : k ≡ count d.jobs (pebble d) =
    ek ∙ ap (λ (m : ℕ). count m (λ i. get_or pebbles i false)) F.jobs_are
    ∙ count_cong d.jobs (λ i. get_or pebbles i false) (pebble d) are in
    let few : count d.jobs (pebble d) ≤ d.jobs = count-le d.jobs (pebble d) in
    ef ∙ ap₂ times_of eb so-many
    ∙ times_exact d.benches (count d.jobs (pebble d)) (omega (arith, F.bounded.few_benches))
    (omega (arith, F.bounded.few_jobs))

-- ── the decisions of a day ──

module _ (d : Day) (jobs : ℕ) (minutes allowed : List ℕ) (F : Fields d jobs minutes allowed) (target : ℕ) where
  abbrev too_long : ℕ → Bool
  too_long i = ltb target (get_or minutes i 0)

  first_long : target ≡ d.target → least jobs too_long ≡ long_job d
  first_long et =
      ap (λ (t : ℕ). least jobs (λ i. ltb t (get_or minutes i 0))) et ∙ long_job_is d jobs minutes allowed F

  pub long_decided : {r : Option ℕ} {j : ℕ} → target ≡ d.target → r ≡ first jobs too_long → r ≡ Some j
      → Decides d (record { decision = Long (record { job = j }); places = replicate 512 0 })
  long_decided {j = j} et er told =
      let (ej, below) = first-some jobs too_long er told in
      let found : j ≡ long_job d = ej ∙ first_long et in
      let here : ltb (long_job d) d.jobs ≡ true = lt-ltb (long_job d) d.jobs (omega (arith, found, F.jobs_are)) in
      let ends = run_long d here in
      record {
        decision = ap (λ (k : ℕ). Long (record { job = k })) found ∙ sym (ap (decision_of d) ends);
        places = λ j h.
            get_or-replicate {A = ℕ} 512 j 0 0 (omega (arith, F.bounded.few_jobs))
            ∙ sym (ap (λ o. get_or (places_in o) j 0) ends);
        one_to_a_job = λ p e. clash {b = true} refl cc;
      }

  pub not_long : {r : Option ℕ} → target ≡ d.target → r ≡ first jobs too_long → r ≡ None
      → ltb (long_job d) d.jobs ≡ false
  not_long et er told =
      let far = first-none jobs too_long er told in
      le-ltb (long_job d) d.jobs (omega (arith, far, first_long et, F.jobs_are))

pub crowded_decided : (d : Day) (benches : ℕ) (balance : List Balance) → d.jobs ≤ 512
    → ltb (long_job d) d.jobs ≡ false → benches ≡ d.benches
    → ((v : ℕ) → v < d.benches → get_or balance v Tree ≡ balance_in d v) → {o : Option ℕ} {v : ℕ} {r : Decision}
    → o ≡ first benches (λ u. is_crowded (get_or balance u Tree)) → o ≡ Some v
    → r ≡ Blocked (record { set = set_of (members d.benches (component d v)); moves = 0 })
    → Decides d (record { decision = r; places = replicate 512 0 })
crowded_decided d benches balance few short eb are {v = v} {r = r} eo told er =
    let (ev, below) = first-some benches (λ u. is_crowded (get_or balance u Tree)) eo told in
    let found : v ≡ crowded_bench d = ev ∙ crowded-bench_is d benches balance eb are in
    let here : ltb (crowded_bench d) d.benches ≡ true = lt-ltb (crowded_bench d) d.benches (omega arith) in
    let ends = run-crowded d short here in
    let same : r ≡ Blocked (record { set = set_of (members d.benches (component d (crowded_bench d))); moves = 0 }) =
    er ∙ ap (λ (u : ℕ). Blocked (record { set = set_of (members d.benches (component d u)); moves = 0 })) found in
    record {
      decision = same ∙ sym (ap (decision_of d) ends);
      places = λ j h. get_or-replicate {A = ℕ} 512 j 0 0 (omega arith) ∙ sym (ap (λ o. get_or (places_in o) j 0) ends);
      one_to_a_job = λ p e. clash {b = true} refl cc;
    }

pub not_crowded : (d : Day) (benches : ℕ) (balance : List Balance) → benches ≡ d.benches
    → ((v : ℕ) → v < d.benches → get_or balance v Tree ≡ balance_in d v) → {o : Option ℕ}
    → o ≡ first benches (λ u. is_crowded (get_or balance u Tree)) → o ≡ None → ltb (crowded_bench d) d.benches ≡ false
not_crowded d benches balance eb are eo told =
    let far = first-none benches (λ u. is_crowded (get_or balance u Tree)) eo told in
    le-ltb (crowded_bench d) d.benches (omega (arith, far, crowded-bench_is d benches balance eb are))

-- ── the rocks of a day ──

module _ (d : Day) (h : Head) (jobs : ℕ) (minutes allowed booked : List ℕ)
    (L : Lent d h jobs minutes allowed booked) where
  F : Fields d jobs minutes allowed
  F = L.fields

  -- The three numbers, one after another.
  same : {A : Type 0} (f : ℕ → ℕ → ℕ → A) → f h.p h.q h.target ≡ f d.p d.q d.target
  same f =
      ap (λ (k : ℕ). f k h.q h.target) L.p_is ∙ ap (λ (k : ℕ). f d.p k h.target) L.q_is
      ∙ ap (f d.p d.q) L.target_is

  pub marks-are : (rock₀ : List Bool) {rocks : List Bool} → 512 ≤ length rock₀
      → rocks ≡ filled jobs (λ j. rock_of h.p h.q h.target (get_or minutes j 0) (get_or allowed j 0)) rock₀
      → (j : ℕ) → j < d.jobs → get_or rocks j false ≡ rock d j
  marks-are rock₀ room e =
      rocks_are d jobs minutes allowed F rock₀ (omega (arith, F.bounded.few_jobs))
      (e ∙ same (λ a b c. filled jobs (λ j. rock_of a b c (get_or minutes j 0) (get_or allowed j 0)) rock₀))

  pub pebble-marks : (pebble₀ : List Bool) {pebbles : List Bool} → 512 ≤ length pebble₀
      → pebbles ≡ filled jobs (λ j. pebble_of h.p h.q h.target (get_or minutes j 0) (get_or allowed j 0)) pebble₀
      → (j : ℕ) → j < d.jobs → get_or pebbles j false ≡ pebble d j
  pebble-marks pebble₀ room e =
      pebbles_are d jobs minutes allowed F pebble₀ (omega (arith, F.bounded.few_jobs))
      (e ∙ same (λ a b c. filled jobs (λ j. pebble_of a b c (get_or minutes j 0) (get_or allowed j 0)) pebble₀))

  pub weighed : (weight₀ : List ℕ) {weights : List ℕ} → 512 ≤ length weight₀
      → weights ≡ filled jobs (λ j. times_of (times_of 3 h.q) (get_or minutes j 0)) weight₀
      → (j : ℕ) → j < d.jobs → get_or weights j 0 ≡ weight d j
  weighed weight₀ room e =
      weights-are d jobs minutes allowed F weight₀ (omega (arith, F.bounded.few_jobs))
      (e ∙ ap (λ (k : ℕ). filled jobs (λ j. times_of (times_of 3 k) (get_or minutes j 0)) weight₀) L.q_is)

  pub burdened : (benches : ℕ) → benches ≡ d.benches → (burden₀ : List ℕ) {burden : List ℕ} → 64 ≤ length burden₀
      → burden ≡ filled benches (λ v. times_of (times_of 3 h.q) (get_or booked v 0)) burden₀
      → (v : ℕ) → v < d.benches → get_or burden v 0 ≡ scale d * d.booked v
  burdened benches eb burden₀ room e v l =
      let B = F.bounded in
      let tripled : times_of 3 h.q ≡ 3 * d.q =
      ap (times_of 3) L.q_is ∙ times_exact 3 d.q (omega arith) (omega (arith, B.q_small)) in
      ap (λ (xs : List ℕ). get_or xs v 0) e
      ∙ get_or-filled (λ v. times_of (times_of 3 h.q) (get_or booked v 0)) benches burden₀ v 0
      (omega (arith, eb)) (omega (arith, eb, B.few_benches))
      ∙ ap₂ times_of tripled (L.booked_are v l)
      ∙ times_exact (3 * d.q) (d.booked v) (omega (arith, B.q_small)) (omega (arith, B.booked_small v))

  module _ (n : Limits) (en : n ≡ limits_of h.benches jobs h.p h.q h.target) where
    pub limit-benches : n.benches ≡ d.benches
    limit-benches = ap (λ (l : Limits). l.benches) en ∙ L.benches_are

    pub limit-jobs : n.jobs ≡ d.jobs
    limit-jobs = ap (λ (l : Limits). l.jobs) en ∙ F.jobs_are

    pub limit_bound : n.bound ≡ bound d
    limit_bound =
        ap (λ (l : Limits). l.bound) en ∙ same (λ a b c. times_of (plus_of (times_of 5 b) a) c)
        ∙ bound_is d F.bounded

    pub limit-small : n.small ≡ small d
    limit-small =
        ap (λ (l : Limits). l.small) en ∙ same (λ a b c. times_of (plus_of (times_of 2 b) a) c)
        ∙ small_is d F.bounded

    pub limit-limit : n.limit ≡ limit d
    limit-limit =
        ap (λ (l : Limits). l.limit) en ∙ same (λ a b c. times_of (times_of 5 b - times_of 2 a) c)
        ∙ limit_is d F.bounded

  -- The rocks that the gathering finds, and their jobs.
  module _ (sound : SoundDay d) (marked : List Bool) (are : (j : ℕ) → j < d.jobs → get_or marked j false ≡ rock d j)
      {k : ℕ} (ek : k ≡ count jobs (λ j. get_or marked j false)) where
    few : day_rocks d ≤ 512
    few = omega (arith, count-le d.jobs (rock d), F.bounded.few_jobs)

    pub jobs_gathered : (job₀ : List ℕ) {job : List ℕ} → 512 ≤ length job₀
        → job ≡ filled k (λ r. get_or (members jobs (λ j. get_or marked j false)) r 0) job₀ → JobsOf d job
    jobs_gathered job₀ room e = gathered_jobs d jobs minutes allowed F marked are k job₀ ek (omega (arith, few)) e

    abbrev its_set : ℕ → ℕ
    its_set r = get_or allowed (get_or (members jobs (λ j. get_or marked j false)) r 0) 0

    pub rocks_gathered : (n : Limits) (low₀ high₀ : List ℕ) {low high : List ℕ}
        → n.benches ≡ d.benches → n.jobs ≡ d.jobs → n.rocks ≡ k → 512 ≤ length low₀ → 512 ≤ length high₀
        → low ≡ filled k (λ r. lowest_of (its_set r)) low₀ → high ≡ filled k (λ r. highest_of (its_set r)) high₀
        → DayRocks d n low high
    rocks_gathered n low₀ high₀ nb nj nr low-room high-room el eh =
        gathered_rocks d jobs minutes allowed F marked are sound n k low₀ high₀ ek nb nj nr
        (omega (arith, few)) (omega (arith, few)) el eh
