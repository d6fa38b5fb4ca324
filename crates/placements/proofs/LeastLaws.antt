-- The least weight of a placement, and blocking sets, of a day without a long job.
--     ends_below        both ends of a heavy job are benches of the day
--     on-an_end, end-allowed      every allowed bench of a heavy job is one of its two ends, and both are allowed
--     puts_placement, placement_puts      the placements are those that the procedure speaks of
--     spent-is          and weigh the same inside the set
--     least_is          where the procedure has a weight, it is reached by a placement and no placement is below it
--     none_is           else there is no placement
--     least_only, none_only     and no other answer is so
--     least_small       the weight is no more than that of all heavy jobs
--     blocks-blocking, blocking-blocks    a set passes the test if and only if it is blocking
use Prim.Native.Nat.{ℕ, ◌+◌, ◌*◌, ◌≤◌, ◌<◌}
use mathlib.Core.Path.{◌≡◌, refl, sym, ap, subst, ◌∙◌}
use mathlib.Core.Bool.{Bool, true, ◌&&◌}
use mathlib.Core.Logic.{◌⊎◌, inl, inr}
use native.Mathlib.Omega.{arith}
use lib.Dec.{ltb}
use borrow.Author.Tests.{ltb-true, lt-ltb, eq-eqb}
use Rattle.bools.proofs.BoolLaws.{split, and_intro, and_left, and_right}
use Rattle.bools.proofs.OrderLaws.{eq-or-ne, lt-or-le}
use Rattle.sums.specs.Sum.{on, sum, count}
use Rattle.sums.proofs.SearchLaws.{least-holds}
use Rattle.sums.proofs.SumLaws.{on_and, sum_cong}
use Rattle.sums.proofs.CountLaws.{count-two}
use Rattle.day.specs.Day.{Day, choices, heavy}
use Rattle.demand.specs.Demand.{Placement, weight_inside, Blocking}
use Rattle.algorithm.specs.Rocks.{rock, lowest, highest}
use Rattle.algorithm.specs.SoundDay.{SoundDay}
use Rattle.algorithm.proofs.RockLaws.{lowest-below, lowest-allowed, high_below, allowed_end}
use Rattle.std.specs.Prelude.{Option, None, Some}
use Rattle.placements.specs.Classes.{Heavies, Tried, stuck, going, after, answer_of, least_of}
use Rattle.placements.specs.LeastWeight.{heavy_inside, confined_inside, LeastHeavy, NoPlacements, other_end}
use Rattle.placements.specs.LeastWeight.{heavies_of}
use Rattle.placements.specs.LeastWeight.{least_heavy, outweighs, blocks}
use Rattle.placements.proofs.ClassFacts.{spent, Puts, EndsBelow}
use Rattle.placements.proofs.ClassUpper.{spent-most}
use Rattle.placements.proofs.ClassTheorem.{Lowest, stuck_is_none, going_is_lowest}

module _ (d : Day) (sound : SoundDay d) where
  -- ── the two ends of a heavy job ──

  module _ (j : ℕ) (l : j < d.jobs) where
    abbrev later : ℕ → Bool
    later b = ltb (lowest d j) b && d.allows j b

    pub other-below : other_end d j < d.benches
    other-below = elim (split (ltb (highest d j) d.benches)) [
      | inl p ↦ rw p (ltb-true (highest d j) d.benches p)
      | inr p ↦ rw p (lowest-below d sound j l)
    ]

    high-later : highest d j < d.benches → later (highest d j) ≡ true
    unfolding highest
    high-later p = least-holds d.benches later p

    pub other-later : highest d j < d.benches → (lowest d j < highest d j) × (d.allows j (highest d j) ≡ true)
    other-later p = (
      ltb-true (lowest d j) (highest d j)
          (and_left (ltb (lowest d j) (highest d j)) (d.allows j (highest d j)) (high-later p)),
      and_right (ltb (lowest d j) (highest d j)) (d.allows j (highest d j)) (high-later p),
    )

    pub other_allowed : d.allows j (other_end d j) ≡ true
    other_allowed = elim (split (ltb (highest d j) d.benches)) [
      | inl p ↦
          rw p (and_right (ltb (lowest d j) (highest d j)) (d.allows j (highest d j))
          (high-later (ltb-true (highest d j) d.benches p)))
      | inr p ↦ rw p (lowest-allowed d sound j l)
    ]

    -- A bench besides the lowest makes the job a rock.
    pub on-an_end : heavy d j ≡ true → (v : ℕ) → d.allows j v ≡ true → (v ≡ lowest d j) ⊎ (v ≡ other_end d j)
    on-an_end p v a = elim (eq-or-ne v (lowest d j)) [
      | inl e ↦ inl e
      | inr ne ↦
          let below = sound.allowed_below j v a in
          let two = count-two d.benches (d.allows j) v (lowest d j) below (lowest-below d sound j l) ne a
          (lowest-allowed d sound j l) in
          let r : rock d j ≡ true =
          and_intro p (eq-eqb (choices d j) 2 (omega (arith, two, sound.heavy_two j l p))) in
          let same : other_end d j ≡ highest d j =
          rw (lt-ltb (highest d j) d.benches (high_below d j r)) refl in
          elim (allowed_end d j r v below a) [ inl e ↦ inl e | inr e ↦ inr (e ∙ sym same) ]
    ]

  module _ (set : ℕ → Bool) where
    abbrev g : Heavies
    g = heavies_of d set

    pub ends_below : EndsBelow g d.benches d.jobs
    ends_below = record { low_below = λ j l p. lowest-below d sound j l; high_below = λ j l p. other-below j l }

    -- ── placements ──

    pub placement_puts : (place : ℕ → ℕ) → Placement d place → Puts g d.jobs place
    placement_puts place P =
        record {
          on_end = λ j l p. on-an_end j l p (place j) (P.on_allowed j l p);
          apart = λ j k l t p q e. omega (arith, P.one_to_a_bench j k (omega arith) t p q e);
        }

    pub puts_placement : (place : ℕ → ℕ) → Puts g d.jobs place → Placement d place
    puts_placement place P =
        record {
          on_allowed = λ j l p. elim (P.on_end j l p) [
            | inl e ↦ subst (λ (v : ℕ). d.allows j v ≡ true) (sym e) (lowest-allowed d sound j l)
            | inr e ↦ subst (λ (v : ℕ). d.allows j v ≡ true) (sym e) (other_allowed j l)
          ];
          one_to_a_bench = λ e f le lf p q same. elim (lt-or-le e f) [
            | inl less ↦ absurd (P.apart e f less lf p q same)
            | inr more ↦ elim (lt-or-le f e) [
              | inl less ↦ absurd (P.apart f e less le q p (sym same))
              | inr most ↦ omega arith
            ]
          ];
        }

    pub spent-is : (place : ℕ → ℕ) → spent g d.jobs place ≡ heavy_inside d place set
    spent-is place =
        sum_cong d.jobs (λ j. on (heavy d j) (on (set (place j)) (d.minutes j)))
        (λ j. on (heavy d j && set (place j)) (d.minutes j))
        (λ j l. sym (on_and (heavy d j) (set (place j)) (d.minutes j)))

    -- ── the least weight ──

    is-lowest : (w : ℕ) → Lowest g d.benches d.jobs ends_below w → LeastHeavy d set w
    is-lowest w low =
        let (place, P, e) = low.reached in
        record {
          reached = (place, puts_placement place P, sym (spent-is place) ∙ e);
          none_below = λ other Q. omega (arith, low.none_below other (placement_puts other Q), spent-is other);
        }

    -- What the procedure comes to, by its last state.
    abbrev Found : Option ℕ → Type 0
    Found None = NoPlacements d
    Found (Some w) = LeastHeavy d set w

    found_by : (t : Tried) → after g d.jobs ≡ t → Found (answer_of t)
    found_by stuck e =
        λ place P. stuck_is_none g d.benches d.jobs ends_below e place (placement_puts place P)
    found_by (going s) e = is-lowest s.base (going_is_lowest g d.benches d.jobs ends_below s e)

    found : Found (least_heavy d set)
    unfolding least_of
    found = found_by (after g d.jobs) refl

    pub least_is : (w : ℕ) → least_heavy d set ≡ Some w → LeastHeavy d set w
    least_is w e = subst Found e found

    pub none_is : least_heavy d set ≡ None → NoPlacements d
    none_is e = subst Found e found

    -- Nothing else is: the facts have one answer.
    least_only_by : (r : Option ℕ) → Found r → (n : ℕ) → LeastHeavy d set n → r ≡ Some n
    least_only_by None none n L = let (place, P, e) = L.reached in absurd (none place P)
    least_only_by (Some w) it n L =
        let (place, P, e) = L.reached in
        let (other, Q, f) = it.reached in
        let same : w ≡ n = omega (arith, it.none_below place P, e, L.none_below other Q, f) in
        ap Some same

    none_only_by : (r : Option ℕ) → Found r → NoPlacements d → r ≡ None
    none_only_by None it none = refl
    none_only_by (Some w) it none = let (place, P, e) = it.reached in absurd (none place P)

    pub least_only : (n : ℕ) → LeastHeavy d set n → least_heavy d set ≡ Some n
    least_only n L = least_only_by (least_heavy d set) found n L

    pub none_only : NoPlacements d → least_heavy d set ≡ None
    none_only none = none_only_by (least_heavy d set) found none

    -- No more than all heavy jobs weigh.
    pub least_small : (w : ℕ) → least_heavy d set ≡ Some w → w ≤ sum d.jobs (λ j. on (heavy d j) (d.minutes j))
    least_small w e =
        let (place, P, same) = (least_is w e).reached in
        omega (arith, same, spent-is place, spent-most g d.jobs place)

    -- ── blocking sets ──

    heavier_by : (r : Option ℕ) → Found r → outweighs d set r ≡ true
        → (place : ℕ → ℕ) → Placement d place → count d.benches set * d.target < weight_inside d place set
    heavier_by None none p place P = absurd (none place P)
    heavier_by (Some w) it p place P =
        omega (
          arith,
          ltb-true (count d.benches set * d.target) (confined_inside d set + w) p,
          it.none_below place P,
        )

    outweighs-by : (r : Option ℕ) → Found r
        → ((place : ℕ → ℕ) → Placement d place → count d.benches set * d.target < weight_inside d place set)
        → outweighs d set r ≡ true
    outweighs-by None f all = refl
    outweighs-by (Some w) it all =
        let (place, P, e) = it.reached in
        lt-ltb (count d.benches set * d.target) (confined_inside d set + w) (omega (arith, all place P, e))

    pub blocks-blocking : blocks d set ≡ true → Blocking d set
    unfolding blocks
    blocks-blocking p =
        record {
          some_bench =
              ltb-true 0 (count d.benches set)
              (and_left (ltb 0 (count d.benches set)) (outweighs d set (least_heavy d set)) p);
          heavier =
              heavier_by (least_heavy d set) found
              (and_right (ltb 0 (count d.benches set)) (outweighs d set (least_heavy d set)) p);
        }

    pub blocking-blocks : Blocking d set → blocks d set ≡ true
    unfolding blocks
    blocking-blocks B =
        and_intro (lt-ltb 0 (count d.benches set) B.some_bench)
        (outweighs-by (least_heavy d set) found B.heavier)
