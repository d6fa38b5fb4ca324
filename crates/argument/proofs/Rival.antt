-- The rival (document 01, demand 3): an assignment that keeps every bench within the target shuts out long jobs and blocking sets.
--     assignment_tested, assignment_test      an assignment passes the test, and what passes it is one
--     two_terms               two different terms are together at most the sum
--     assigned_below, load_kept       an assignment uses benches of the day; it keeps the load of each
--     rival_placement         such an assignment is a placement
--     weight_carried          what weighs inside a set, under an assignment that is a placement, lies on the benches of the set
--     rival_none_blocking     no set is blocking
--     rival_none_long         no job is longer than the target
--     some_above              an assignment that does not keep the target leaves some bench above it
--     blocking_overloads      where a set is blocking, every assignment leaves some bench above the target
--     long_overloads          and so it does where a job is too long
use Prim.Native.Nat.{ℕ, ◌+◌, ◌*◌, ◌≤◌, ◌<◌}
use mathlib.Core.Path.{◌≡◌, refl, sym}
use mathlib.Core.Logic.{◌≢◌, inl, inr}
use mathlib.Core.Bool.{Bool, true, false, ◌&&◌}
use native.Mathlib.Omega.{arith}
use native.Mathlib.Nat.{mul-le-mul_left, mul-le-mul_right}
use lib.Dec.{eqb}
use borrow.Author.Tests.{ltb-true, leb-true, leb-false, eq-eqb, ne_eqb}
use Rattle.bools.proofs.BoolLaws.{split, clash}
use Rattle.bools.proofs.OrderLaws.{eq-or-ne}
use Rattle.sums.specs.Sum.{on, sum}
use Rattle.sums.proofs.SumLaws.{sum-gap, sum-at, sum-add, sum-le, on-le}
use Rattle.sums.proofs.CountLaws.{sum-on-at_most}
use Rattle.sums.proofs.MoreSumLaws.{sum-on-add, sum-on-term, sum-gather}
use Rattle.sums.proofs.SearchLaws.{all_intro, all_elim, all-false}
use Rattle.day.specs.Day.{Day, heavy, light, load_of}
use Rattle.demand.specs.Demand.{is_assignment, Assignment, within_target, keeps_target, SomeOver, Placement, kept_inside, lies_inside, weight_inside}
use Rattle.demand.specs.Demand.{Blocking, LongJob}
use Rattle.algorithm.specs.SoundDay.{AcceptedDay}

pub assignment_tested : (d : Day) (a : ℕ → ℕ) → Assignment d a → is_assignment d a ≡ true
assignment_tested d a assigned = all_intro d.jobs (λ j. d.allows j (a j)) assigned.on_allowed

pub assignment_test : (d : Day) (a : ℕ → ℕ) → is_assignment d a ≡ true → Assignment d a
assignment_test d a test = record { on_allowed = all_elim d.jobs (λ j. d.allows j (a j)) test }

pub two_terms : (n : ℕ) (g : ℕ → ℕ) (e f : ℕ) → e < n → f < n → e ≢ f → g e + g f ≤ sum n g
two_terms n g e f he hf ne =
    let one : sum n (λ i. on (eqb i e) (g i)) ≡ g e = sum-at n g e he in
    let here : on (eqb f e) (g f) ≡ 0 = rw (ne_eqb f e (λ q. ne (sym q))) in
    omega (arith, sum-gap n (λ i. on (eqb i e) (g i)) g f (g f) hf (λ i hi. on-le (eqb i e) (g i)) (omega arith))

module _ (d : Day) (a : ℕ → ℕ) (assigned : Assignment d a) (accepted : AcceptedDay d) where
  assigned_below : (j : ℕ) → j < d.jobs → a j < d.benches
  assigned_below j l = accepted.allowed_below j (a j) (assigned.on_allowed j l)

  -- A heavy job, and a light one whose benches all lie in the set, is put on a bench of the set; so it counts in that bench's load.
  weight_carried : (set : ℕ → Bool) → weight_inside d a set ≤ sum d.benches (λ v. on (set v) (load_of d a v))
  weight_carried set = omega (
    arith,
    sum-add d.jobs heavy-part light-part,
    sum-le d.jobs (λ j. heavy-part j + light-part j) (λ j. on (set (a j)) (d.minutes j)) job-carried,
    sum-gather d.benches d.jobs (λ j. true) a d.minutes (λ j l p. assigned_below j l) set,
    sum-on-add d.benches set d.booked (λ v. sum d.jobs (λ j. on (eqb (a j) v) (d.minutes j))),
  )
    where
      heavy-part : ℕ → ℕ
      heavy-part j = on (heavy d j && set (a j)) (d.minutes j)

      light-part : ℕ → ℕ
      light-part j = on (light d j && lies_inside d set j) (d.minutes j)

      inside_on : (j : ℕ) → j < d.jobs → lies_inside d set j ≡ true → set (a j) ≡ true
      inside_on j l i = elim (split (set (a j))) [
        | inl there ↦ there
        | inr out ↦
            let leaves : kept_inside d set j (a j) ≡ false = rw (assigned.on_allowed j l, out) in
            clash (all_elim d.benches (kept_inside d set j) i (a j) (assigned_below j l)) leaves
      ]

      light-carried : (j : ℕ) → j < d.jobs → on (lies_inside d set j) (d.minutes j) ≤ on (set (a j)) (d.minutes j)
      light-carried j l = elim (split (lies_inside d set j)) [
        | inl i ↦ rw (i, inside_on j l i) (omega arith)
        | inr i ↦ rw i (omega arith)
      ]

      job-carried : (j : ℕ) → j < d.jobs → heavy-part j + light-part j ≤ on (set (a j)) (d.minutes j)
      job-carried j l = elim (split (heavy d j)) [
        | inl is-heavy ↦ rw is-heavy (omega arith)
        | inr is-light ↦ rw is-light (omega (arith, light-carried j l))
      ]

  module _ (kept : keeps_target d a ≡ true) where
    load_kept : (v : ℕ) → v < d.benches → load_of d a v ≤ d.target
    load_kept v l = leb-true (load_of d a v) d.target (all_elim d.benches (λ v. within_target d (load_of d a v)) kept v l)

    -- Two heavy jobs weigh more than 2pT / q, and 2p ≥ q, so a bench within the target has at most one.
    pub rival_placement : Placement d a
    rival_placement = record {
      on_allowed = λ j l is-heavy. assigned.on_allowed j l;
      one_to_a_bench = apart;
    }
      where
        apart : (e f : ℕ) → e < d.jobs → f < d.jobs → heavy d e ≡ true → heavy d f ≡ true → a e ≡ a f → e ≡ f
        apart e f le lf he hf same = elim (eq-or-ne e f) [
          | inl q ↦ q
          | inr ne ↦
              let both : on (eqb (a e) (a e)) (d.minutes e) + on (eqb (a f) (a e)) (d.minutes f)
              ≤ sum d.jobs (λ j. on (eqb (a j) (a e)) (d.minutes j)) =
              two_terms d.jobs (λ j. on (eqb (a j) (a e)) (d.minutes j)) e f le lf ne
              in
              let two : d.minutes e + d.minutes f ≤ sum d.jobs (λ j. on (eqb (a j) (a e)) (d.minutes j)) = rw (eq-eqb (a e) (a e) refl, eq-eqb (a f) (a e) (sym same)) at both in
              let small : d.minutes e + d.minutes f ≤ d.target = omega (arith, load_kept (a e) (assigned_below e le)) in
              let share : d.q ≤ 2 * d.p = omega (arith, accepted.share) in
              absurd (omega (
                arith,
                ltb-true (d.p * d.target) (d.q * d.minutes e) he,
                ltb-true (d.p * d.target) (d.q * d.minutes f) hf,
                mul-le-mul_left d.q small,
                mul-le-mul_right d.target share,
              ))
        ]

    -- What lies inside a set of k benches, each within the target, weighs at most k × T.
    pub rival_none_blocking : (set : ℕ → Bool) → Blocking d set → ⊥
    rival_none_blocking set blocking = omega (
      arith,
      blocking.heavier a rival_placement,
      weight_carried set,
      sum-on-at_most d.benches set (load_of d a) d.target (λ v l p. load_kept v l),
    )

    pub rival_none_long : (j : ℕ) → j < d.jobs → d.minutes j ≤ d.target
    rival_none_long j l = omega (
      arith,
      load_kept (a j) (assigned_below j l),
      sum-on-term d.jobs (λ i. eqb (a i) (a j)) d.minutes j l (eq-eqb (a j) (a j) refl),
    )

  -- ── the rival has no answer ──

  -- Whether an assignment keeps the target is decided bench by bench.
  some_above : (keeps_target d a ≡ true → ⊥) → SomeOver d a
  some_above never-kept = elim (split (keeps_target d a)) [
    | inl kept ↦ absurd (never-kept kept)
    | inr above ↦
        let (v, l, p) = all-false d.benches (λ v. within_target d (load_of d a v)) above in
        (v, l, leb-false (load_of d a v) d.target p)
  ]

  pub blocking_overloads : (set : ℕ → Bool) → Blocking d set → SomeOver d a
  blocking_overloads set blocking = some_above (λ kept. rival_none_blocking kept set blocking)

  pub long_overloads : (j : ℕ) → LongJob d j → SomeOver d a
  long_overloads j long = some_above (λ kept. omega (arith, rival_none_long kept j long.is_job, ltb-true d.target (d.minutes j) long.longer))
