-- The graph of a day's rocks.
--     rocks d Y               e(Y): how many rocks have both benches in Y
--     rock-graph              benches and rocks are a graph, joined by `joined`
--     rocks-component         the rocks of a component, as the start of the run counts them
--     component-rock          a rock with one bench in a component lies inside it
--     component-allowed       every bench that a rock of a component allows is in it
--     component-self          a component holds its own bench
--     uncrowded, uncrowded_test     no component is crowded, where the search for one finds none
--     crowded-bench           and a bench that it finds has a crowded component
--     uncrowded-rocks         then a component has at most as many rocks as benches
--     rocks-grow              e(Y) + |K| ≤ e(K) + |Y| for a non-empty part Y of a component K
--     rocks-sparse            e(Y) ≤ |Y| for every Y, where no component is crowded
--     rocks-tree              e(Y) + 1 ≤ |Y| for a non-empty part Y of a component with fewer rocks than benches
--     one_cycle_same          all benches of a component with as many rocks as benches know it
--     tree_or_cycle           an uncrowded component has fewer rocks than benches, or as many
use Prim.Native.Nat.{ℕ, suc, ◌+◌, ◌≤◌, ◌<◌}
use mathlib.Core.Path.{◌≡◌, refl, sym, ◌∙◌}
use mathlib.Core.Logic.{◌⊎◌, inl, inr, ⊎_elim}
use mathlib.Core.Bool.{Bool, true, false, not, ◌&&◌}
use native.Mathlib.Omega.{arith}
use lib.Dec.{eqb, ltb}
use borrow.Author.Tests.{eq-eqb, ne_eqb, eqb-true, ltb-false}
use Rattle.bools.proofs.BoolLaws.{and_intro, and_left, and_right, not_intro_true, not-eqb-true}
use Rattle.bools.proofs.OrderLaws.{eq-or-ne}
use Rattle.sums.specs.Sum.{count}
use Rattle.sums.proofs.SearchLaws.{any_intro, any_elim, least-before, least-holds}
use Rattle.sums.proofs.CountLaws.{count_cong}
use Rattle.closure.proofs.ClosureLaws.{reach_refl}
use Rattle.day.specs.Day.{Day}
use Rattle.algorithm.specs.Rocks.{rock, lowest, highest}
use Rattle.algorithm.specs.Start.{joined_by, joined, component, rocks_in, crowded, crowded_bench, one_cycle}
use Rattle.algorithm.specs.SoundDay.{Uncrowded}
use Rattle.algorithm.proofs.RockLaws.{low_allowed, high_allowed, low_below_high, high_below, allowed_end}
use Rattle.algorithm.proofs.Graph.{Graph, Joins, edges, component_closed, component-edges, component_same, low_below, edges-grow, sparse}

abbrev pub rocks : Day → (ℕ → Bool) → ℕ
rocks d Y = edges d.jobs (rock d) (lowest d) (highest d) Y

module _ (d : Day) where
  joins_both : (j u w : ℕ) → rock d j ≡ true → u < d.benches → w < d.benches → d.allows j u ≡ true → d.allows j w ≡ true → (u ≡ w → ⊥)
      → Joins (lowest d) (highest d) j u w
  joins_both j u w r hu hw au aw ne =
      ⊎_elim
      (λ a. ⊎_elim (λ b. absurd (ne (a ∙ sym b))) (λ b. inl (a, b)) (allowed_end d j r w hw aw))
      (λ a. ⊎_elim (λ b. inr (a, b)) (λ b. absurd (ne (a ∙ sym b))) (allowed_end d j r w hw aw))
      (allowed_end d j r u hu au)

  joined_intro : (j u w : ℕ) → j < d.jobs → rock d j ≡ true → d.allows j u ≡ true → d.allows j w ≡ true → (u ≡ w → ⊥) → joined d u w ≡ true
  joined_intro j u w h r au aw ne =
      any_intro d.jobs (joined_by d u w) j h (and_intro (and_intro (and_intro r au) aw) (not_intro_true (ne_eqb u w ne)))

  pub rock-graph : Graph d.benches d.jobs (rock d) (lowest d) (highest d) (joined d)
  rock-graph =
      record {
        apart = λ j h r. low_below_high d j r;
        below = λ j h r. high_below d j r;
        joins = λ j h r. (
          joined_intro j (lowest d j) (highest d j) h r (low_allowed d j r) (high_allowed d j r) (λ e. omega (arith, low_below_high d j r)),
          joined_intro j (highest d j) (lowest d j) h r (high_allowed d j r) (low_allowed d j r) (λ e. omega (arith, low_below_high d j r)),
        );
        joined_by = λ u w hu hw p.
            let (j, h, q) = any_elim d.jobs (joined_by d u w) p in
            let three = and_left (rock d j && d.allows j u && d.allows j w) (not (eqb u w)) q in
            let two = and_left (rock d j && d.allows j u) (d.allows j w) three in (
              j,
              h,
              and_left (rock d j) (d.allows j u) two,
              joins_both j u w (and_left (rock d j) (d.allows j u) two) hu hw (and_right (rock d j) (d.allows j u) two)
                  (and_right (rock d j && d.allows j u) (d.allows j w) three)
                  (not-eqb-true u w (and_right (rock d j && d.allows j u && d.allows j w) (not (eqb u w)) q)),
            );
      }

  pub component-self : (v : ℕ) → component d v v ≡ true
  component-self v = reach_refl d.benches (joined d) v

  module _ (v : ℕ) where
    pub rocks-component : rocks d (component d v) ≡ rocks_in d v
    rocks-component = component-edges d.benches d.jobs (rock d) (lowest d) (highest d) (joined d) rock-graph v

    pub component-rock : (j : ℕ) → j < d.jobs → rock d j ≡ true → component d v (lowest d j) ≡ component d v (highest d j)
    component-rock = component_closed d.benches d.jobs (rock d) (lowest d) (highest d) (joined d) rock-graph v

    pub component-allowed : (j w x : ℕ) → j < d.jobs → rock d j ≡ true → w < d.benches → x < d.benches
        → d.allows j w ≡ true → d.allows j x ≡ true → component d v w ≡ true → component d v x ≡ true
    component-allowed j w x h r hw hx aw ax p =
        let same = component-rock j h r in
        let low : component d v (lowest d j) ≡ true =
        ⊎_elim (λ (e : w ≡ lowest d j). cc) (λ (e : w ≡ highest d j). cc) (allowed_end d j r w hw aw)
        in
        ⊎_elim (λ (e : x ≡ lowest d j). cc) (λ (e : x ≡ highest d j). cc) (allowed_end d j r x hx ax)

  module _ (v : ℕ) (hv : v < d.benches) (Y : ℕ → Bool) (part : (u : ℕ) → u < d.benches → Y u ≡ true → component d v u ≡ true)
      (y : ℕ) (hy : y < d.benches) (py : Y y ≡ true) where
    pub rocks-grow : rocks d Y + count d.benches (component d v) ≤ rocks_in d v + count d.benches Y
    rocks-grow = omega (
      arith,
      rocks-component v,
      edges-grow d.benches d.jobs (rock d) (lowest d) (highest d) (joined d) rock-graph v hv Y part y hy py,
    )

    pub rocks-tree : rocks_in d v < count d.benches (component d v) → suc (rocks d Y) ≤ count d.benches Y
    rocks-tree less = omega (arith, rocks-grow)

  pub uncrowded : crowded_bench d ≡ d.benches → Uncrowded d
  unfolding crowded_bench
  uncrowded e v hv = least-before d.benches (crowded d) v (omega arith)

  pub uncrowded_test : ltb (crowded_bench d) d.benches ≡ false → Uncrowded d
  unfolding crowded_bench
  uncrowded_test p v hv = least-before d.benches (crowded d) v (omega (arith, ltb-false (crowded_bench d) d.benches p))

  pub crowded-bench : crowded_bench d < d.benches → crowded d (crowded_bench d) ≡ true
  unfolding crowded_bench
  crowded-bench h = least-holds d.benches (crowded d) h

  pub one_cycle_same : (v w : ℕ) → v < d.benches → w < d.benches → component d v w ≡ true → one_cycle d v ≡ true → one_cycle d w ≡ true
  unfolding one_cycle
  one_cycle_same v w hv hw p one =
      let same = component_same d.benches d.jobs (rock d) (lowest d) (highest d) (joined d) rock-graph v w hv hw p in
      let benches-same = count_cong d.benches (component d w) (component d v) same in
      let rocks-same : rocks_in d w ≡ rocks_in d v =
      count_cong d.jobs (λ j. rock d j && component d w (lowest d j)) (λ j. rock d j && component d v (lowest d j))
      (λ j h. on-rocks (rock d j) (component d w (lowest d j)) (component d v (lowest d j))
      (λ r. same (lowest d j) (low_below d.benches d.jobs (rock d) (lowest d) (highest d) (joined d) rock-graph j h r)))
      in
      eq-eqb (rocks_in d w) (count d.benches (component d w))
      (omega (arith, eqb-true (rocks_in d v) (count d.benches (component d v)) one))
    where
      on-rocks : (r a b : Bool) → (r ≡ true → a ≡ b) → (r && a) ≡ (r && b)
      on-rocks true a b e = e refl
      on-rocks false a b e = refl

  module _ (free : Uncrowded d) where
    pub uncrowded-rocks : (v : ℕ) → v < d.benches → rocks_in d v ≤ count d.benches (component d v)
    uncrowded-rocks v hv = ltb-false (count d.benches (component d v)) (rocks_in d v) (free v hv)

    pub rocks-sparse : (Y : ℕ → Bool) → rocks d Y ≤ count d.benches Y
    rocks-sparse = sparse d.benches d.jobs (rock d) (lowest d) (highest d) (joined d) rock-graph
        (λ v hv. omega (arith, rocks-component v, uncrowded-rocks v hv))

    pub tree_or_cycle : (v : ℕ) → v < d.benches → (rocks_in d v < count d.benches (component d v)) ⊎ (one_cycle d v ≡ true)
    unfolding one_cycle
    tree_or_cycle v hv = elim (eq-or-ne (rocks_in d v) (count d.benches (component d v))) [
      | inl e ↦ inr (eq-eqb (rocks_in d v) (count d.benches (component d v)) e)
      | inr n ↦ inl (omega (arith, uncrowded-rocks v hv))
    ]
