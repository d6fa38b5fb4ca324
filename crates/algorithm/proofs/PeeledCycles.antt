-- What peeling leaves of a component with as many rocks as benches: cycles.
--     degree d left v      how many rocks are left at bench v
--     on-count             counting a set that is there or not
--     degree-sum           the rocks left at the benches of Z, counted by rock
--     cycle-degree         after peeling a bench of such a component has no rock left, or exactly two
use Prim.Native.Nat.{ℕ, ◌*◌, ◌≤◌, ◌<◌}
use mathlib.Core.Path.{◌≡◌, refl, sym}
use mathlib.Core.Logic.{◌⊎◌, inl, inr}
use mathlib.Core.Bool.{Bool, true, false, ◌&&◌}
use mathlib.Core.List.{List}
use native.Mathlib.Omega.{arith}
use lib.ListN.{get_or}
use lib.Dec.{ltb}
use borrow.Author.Tests.{eq-eqb, eqb-true, ltb-true, lt-ltb}
use Rattle.bools.proofs.BoolLaws.{split, clash, and_intro, and_left, and_right}
use Rattle.bools.proofs.OrderLaws.{eq-or-ne, lt-or-le}
use Rattle.sums.specs.Sum.{on, sum, count}
use Rattle.sums.proofs.SumLaws.{sum_cong, sum-le, sum-mul}
use Rattle.sums.proofs.MoreSumLaws.{sum-on-gap, sum-on-const}
use Rattle.sums.proofs.CountLaws.{count_mono, count_none, count-pos, count-swap}
use Rattle.day.specs.Day.{Day}
use Rattle.algorithm.specs.Rocks.{rock, lowest, highest}
use Rattle.algorithm.specs.Start.{component, rocks_in, one_cycle, left_at, start}
use Rattle.algorithm.specs.SoundDay.{SoundDay}
use Rattle.algorithm.proofs.RockLaws.{rock-choices, low_allowed, high_allowed, high_below, low_below_high}
use Rattle.algorithm.proofs.Graph.{edges, inside, edges-fewer}
use Rattle.algorithm.proofs.RockGraph.{rocks-grow, component-self, component-allowed, one_cycle_same}
use Rattle.algorithm.proofs.Peeling.{start-peeled, start-finished}

abbrev pub degree : Day → List Bool → ℕ → ℕ
degree d left v = count d.jobs (left_at d left v)

on-count : (b : Bool) (n : ℕ) (f : ℕ → Bool) → on b (count n f) ≡ count n (λ i. b && f i)
on-count true n f = refl
on-count false n f = sym (count_none n (λ i. false) (λ i h. refl))

module _ (d : Day) (sound : SoundDay d) (v : ℕ) (hv : v < d.benches) (one : one_cycle d v ≡ true) where
  abbrev left : List Bool
  left = (start d).left

  abbrev is_left : ℕ → Bool
  is_left j = get_or left j false

  -- The benches of the component that have a rock left.
  abbrev Z : ℕ → Bool
  Z w = component d v w && ltb 0 (degree d left w)

  left_rock : (j : ℕ) → j < d.jobs → is_left j ≡ true → rock d j ≡ true
  left_rock j h l = (start-peeled d sound).left_rock j h l

  Z_intro : (j w x : ℕ) → j < d.jobs → is_left j ≡ true → w < d.benches → x < d.benches → component d v w ≡ true
      → d.allows j w ≡ true → d.allows j x ≡ true → Z x ≡ true
  Z_intro j w x h l hw hx cw aw ax =
      and_intro (component-allowed d v j w x h (left_rock j h l) hw hx aw ax cw)
      (lt-ltb 0 (degree d left x) (count-pos d.jobs (left_at d left x) j h (and_intro l ax)))

  -- No bench is hanging, so a bench of Z has two rocks at least.
  Z-two : (w : ℕ) → w < d.benches → Z w ≡ true → 2 ≤ degree d left w
  Z-two w hw p =
      let pos = ltb-true 0 (degree d left w) (and_right (component d v w) (ltb 0 (degree d left w)) p) in
      elim (eq-or-ne (degree d left w) 1) [
        | inl e ↦ clash (and_intro (one_cycle_same d v w hv hw (and_left (component d v w) (ltb 0 (degree d left w)) p) one) (eq-eqb (degree d left w) 1 e))
            (start-finished d sound w hw)
        | inr n ↦ omega arith
      ]

  -- A rock that is left at a bench of Z lies inside Z, and is at two benches.
  rock-ends : (j : ℕ) → j < d.jobs → count d.benches (λ w. Z w && left_at d left w j) ≤ 2 * on (inside is_left (lowest d) (highest d) Z j) 1
  rock-ends j h = elim (split (inside is_left (lowest d) (highest d) Z j)) [
    | inl p ↦
        let l = and_left (is_left j) (Z (lowest d j)) (and_left (is_left j && Z (lowest d j)) (Z (highest d j)) p) in
        let few = count_mono d.benches (λ w. Z w && left_at d left w j) (d.allows j)
        (λ w hw q. and_right (is_left j) (d.allows j w) (and_right (Z w) (left_at d left w j) q))
        in
        rw p (omega (arith, rock-choices d j (left_rock j h l)))
    | inr p ↦ rw p (omega (
      arith,
      count_none d.benches (λ w. Z w && left_at d left w j) (λ w hw. elim (split (Z w && left_at d left w j)) [
        | inl q ↦
            let at = and_right (Z w) (left_at d left w j) q in
            let l = and_left (is_left j) (d.allows j w) at in
            let r = left_rock j h l in
            let cw = and_left (component d v w) (ltb 0 (degree d left w)) (and_left (Z w) (left_at d left w j) q) in
            let in-Z : (x : ℕ) → x < d.benches → d.allows j x ≡ true → Z x ≡ true =
            λ x hx ax. Z_intro j w x h l hw hx cw (and_right (is_left j) (d.allows j w) at) ax
            in
            clash (and_intro (and_intro l (in-Z (lowest d j) (omega (arith, low_below_high d j r, high_below d j r)) (low_allowed d j r)))
            (in-Z (highest d j) (high_below d j r) (high_allowed d j r))) p
        | inr q ↦ q
      ]),
    ))
  ]

  degree-sum : sum d.benches (λ w. on (Z w) (degree d left w)) ≤ 2 * edges d.jobs is_left (lowest d) (highest d) Z
  degree-sum = omega (
    arith,
    sum_cong d.benches (λ w. on (Z w) (degree d left w)) (λ w. count d.jobs (λ j. Z w && left_at d left w j))
        (λ w hw. on-count (Z w) d.jobs (left_at d left w)),
    count-swap d.benches d.jobs (λ w j. Z w && left_at d left w j),
    sum-le d.jobs (λ j. count d.benches (λ w. Z w && left_at d left w j)) (λ j. 2 * on (inside is_left (lowest d) (highest d) Z j) 1) rock-ends,
    sum-mul d.jobs 2 (λ j. on (inside is_left (lowest d) (highest d) Z j) 1),
  )

  Z-sparse : Z v ≡ true → edges d.jobs is_left (lowest d) (highest d) Z ≤ count d.benches Z
  unfolding one_cycle
  Z-sparse zv = omega (
    arith,
    edges-fewer d.jobs is_left (rock d) (lowest d) (highest d) Z left_rock,
    rocks-grow d v hv Z (λ u hu p. and_left (component d v u) (ltb 0 (degree d left u)) p) v hv zv,
    eqb-true (rocks_in d v) (count d.benches (component d v)) one,
  )

  -- The benches of Z have two rocks each at least, and together at most twice as many as there are rocks inside Z; these are at most as many as
  -- the benches of Z. So no bench has a third.
  pub cycle-degree : (degree d left v ≡ 0) ⊎ (degree d left v ≡ 2)
  cycle-degree = elim (split (Z v)) [
    | inl zv ↦ elim (lt-or-le 2 (degree d left v)) [
      | inl more ↦ absurd (omega (
        arith,
        sum-on-gap d.benches Z (λ w. 2) (degree d left) v 1 hv zv Z-two (omega arith),
        sum-on-const d.benches Z 2,
        degree-sum,
        Z-sparse zv,
      ))
      | inr few ↦ inr (omega (arith, Z-two v hv zv))
    ]
    | inr zv ↦ elim (lt-or-le 0 (degree d left v)) [
      | inl pos ↦ clash (and_intro (component-self d v) (lt-ltb 0 (degree d left v) pos)) zv
      | inr none ↦ inl (omega arith)
    ]
  ]
