-- Laws of peeling: what the start of the run leaves of the rocks.
--     placement_few          in every placement a component has at most as many rocks as benches
--     placement_fills        where it has as many, every bench of it takes a rock
--     crowded-no_placement   so a component with more rocks than benches has no placement
--     Peeled d s             what holds at every moment of the peeling
--     peeled_step            each step keeps it: a hanging bench takes its only rock in every placement
--     Finished d s           no bench is hanging
--     peel-ends              as many turns as there are rocks left are enough
--     start-peeled, start-finished     so both hold of the start of the run
--     start-allowed          every job's place is an allowed bench
--     start_left_rock        rocks that are left are rocks
--     start-forced           every placement puts a peeled rock where the peeling puts it
use Prim.Native.Nat.{ℕ, zero, suc, ◌≤◌, ◌<◌}
use mathlib.Core.Path.{◌≡◌, sym, ◌∙◌, subst}
use mathlib.Core.Logic.{◌⊎◌, inl, inr, ⊎_elim, ◌≢◌}
use mathlib.Core.Bool.{Bool, true, false, not, ◌&&◌}
use mathlib.Core.List.{List}
use native.Mathlib.Omega.{arith}
use lib.ListN.{length, get_or, set, length-set}
use lib.Seq.{get_or-set_same, get_or-set_other}
use lib.Dec.{eqb, ltb}
use borrow.Author.Tests.{eq-eqb, ne_eqb, eqb-true, ltb-true, ltb-false}
use Rattle.bools.proofs.BoolLaws.{split, clash, and_intro, and_left, and_right, not_intro_true}
use Rattle.bools.proofs.OrderLaws.{eq-or-ne}
use Rattle.sums.specs.Sum.{count}
use Rattle.sums.specs.Search.{any, least}
use Rattle.sums.specs.Table.{table}
use Rattle.sums.proofs.SearchLaws.{any_elim, any_none, least-holds, least-before, least_bound}
use Rattle.sums.proofs.TableLaws.{length-table, get_or-table}
use Rattle.sums.proofs.CountLaws.{count-le, count-zero, count-unique, count-strict, count-pos_elim, count-remove, count-injective}
use Rattle.day.specs.Day.{Day}
use Rattle.algorithm.specs.Rocks.{rock, lowest}
use Rattle.algorithm.specs.Start.{State, component, rocks_in, crowded, one_cycle, left_at, hanging, peel, start}
use Rattle.algorithm.specs.SoundDay.{SoundDay, RockPlacement}
use Rattle.algorithm.proofs.RockLaws.{lowest-allowed, low_allowed}
use Rattle.algorithm.proofs.RockGraph.{component-allowed, component-self}

-- ── placements ──

module _ (d : Day) (sound : SoundDay d) (pl : ℕ → ℕ) (placed : RockPlacement d pl) (v : ℕ) where
  abbrev in_component : ℕ → Bool
  in_component j = rock d j && component d v (lowest d j)

  -- A placement leads from the rocks of the component to its benches, one to one.
  placed_below : (j : ℕ) → j < d.jobs → in_component j ≡ true → pl j < d.benches
  placed_below j h p = sound.allowed_below j (pl j) (placed.allowed j h (and_left (rock d j) (component d v (lowest d j)) p))

  placed_inside : (j : ℕ) → j < d.jobs → in_component j ≡ true → component d v (pl j) ≡ true
  placed_inside j h p =
      let r = and_left (rock d j) (component d v (lowest d j)) p in
      component-allowed d v j (lowest d j) (pl j) h r (sound.allowed_below j (lowest d j) (low_allowed d j r)) (placed_below j h p)
      (low_allowed d j r) (placed.allowed j h r) (and_right (rock d j) (component d v (lowest d j)) p)

  placed_apart : (i j : ℕ) → i < j → j < d.jobs → in_component i ≡ true → in_component j ≡ true → pl i ≢ pl j
  placed_apart i j l h p q e =
      omega (arith, placed.one_each i j (omega arith) h (and_left (rock d i) (component d v (lowest d i)) p) (and_left (rock d j) (component d v (lowest d j)) q) e)

  pub placement_few : rocks_in d v ≤ count d.benches (component d v)
  placement_few = count-injective d.jobs d.benches in_component (component d v) pl placed_below placed_inside placed_apart

  -- Where a bench of the component took no rock, the rocks would be fewer than the benches.
  pub placement_fills : one_cycle d v ≡ true → (w : ℕ) → w < d.benches → component d v w ≡ true
      → (j : ℕ) × (j < d.jobs) × (rock d j ≡ true) × (pl j ≡ w)
  unfolding one_cycle
  placement_fills one w hw cw = elim (split (any d.jobs (λ j. rock d j && eqb (pl j) w))) [
    | inl p ↦ let (j, h, q) = any_elim d.jobs (λ j. rock d j && eqb (pl j) w) p in
        (j, h, and_left (rock d j) (eqb (pl j) w) q, eqb-true (pl j) w (and_right (rock d j) (eqb (pl j) w) q))
    | inr p ↦ absurd (omega (
      arith,
      eqb-true (rocks_in d v) (count d.benches (component d v)) one,
      count-remove d.benches (component d v) w hw cw,
      count-injective d.jobs d.benches in_component (λ i. component d v i && not (eqb i w)) pl placed_below
          (λ j h q. and_intro (placed_inside j h q) (not_intro_true (ne_eqb (pl j) w (λ e.
          clash (and_intro (and_left (rock d j) (component d v (lowest d j)) q) (eq-eqb (pl j) w e)) (any_none d.jobs (λ i. rock d i && eqb (pl i) w) p j h)))))
          placed_apart,
    ))
  ]

pub crowded-no_placement : (d : Day) → SoundDay d → (v : ℕ) → crowded d v ≡ true → (pl : ℕ → ℕ) → RockPlacement d pl → ⊥
crowded-no_placement d sound v p pl placed =
    omega (arith, ltb-true (count d.benches (component d v)) (rocks_in d v) p, placement_few d sound pl placed v)

-- ── what holds while peeling ──

pub record Peeled (d : Day) (s : State) : Type 0 where
  pub left_length : length s.left ≡ d.jobs
  pub place_length : length s.place ≡ d.jobs
  pub left_rock : (j : ℕ) → j < d.jobs → get_or s.left j false ≡ true → rock d j ≡ true
  -- Only rocks that are peeled get a new place.
  pub unplaced : (j : ℕ) → j < d.jobs → (rock d j ≡ false) ⊎ (get_or s.left j false ≡ true) → get_or s.place j 0 ≡ lowest d j
  -- Only rocks of components with as many rocks as benches are peeled, each to one of its benches.
  pub peeled_cycle : (j : ℕ) → j < d.jobs → rock d j ≡ true → get_or s.left j false ≡ false → one_cycle d (get_or s.place j 0) ≡ true
  pub peeled_allowed : (j : ℕ) → j < d.jobs → rock d j ≡ true → get_or s.left j false ≡ false → d.allows j (get_or s.place j 0) ≡ true
  -- A bench that was given a rock has no rock left.
  pub peeled_bare : (j i : ℕ) → j < d.jobs → i < d.jobs → rock d j ≡ true → get_or s.left j false ≡ false
      → left_at d s.left (get_or s.place j 0) i ≡ false
  -- Every placement puts a peeled rock there.
  pub peeled_forced : (pl : ℕ → ℕ) → RockPlacement d pl → (j : ℕ) → j < d.jobs → rock d j ≡ true → get_or s.left j false ≡ false
      → pl j ≡ get_or s.place j 0

module _ (d : Day) (sound : SoundDay d) (s : State) (ok : Peeled d s) (v : ℕ) (hv : v < d.benches) (hangs : hanging d s.left v ≡ true)
    (j : ℕ) (h : j < d.jobs) (at : left_at d s.left v j ≡ true) where
  abbrev next : State
  next = record { left = set s.left j false; place = set s.place j v }

  cycle : one_cycle d v ≡ true
  cycle = and_left (one_cycle d v) (eqb (count d.jobs (left_at d s.left v)) 1) hangs

  only : (i : ℕ) → i < d.jobs → left_at d s.left v i ≡ true → i ≡ j
  only i hi p = count-unique d.jobs (left_at d s.left v)
      (omega (arith, eqb-true (count d.jobs (left_at d s.left v)) 1 (and_right (one_cycle d v) (eqb (count d.jobs (left_at d s.left v)) 1) hangs)))
      i j hi h p at

  was_left : get_or s.left j false ≡ true
  was_left = and_left (get_or s.left j false) (d.allows j v) at

  allowed_here : d.allows j v ≡ true
  allowed_here = and_right (get_or s.left j false) (d.allows j v) at

  left_now : get_or next.left j false ≡ false
  left_now = get_or-set_same s.left j false false (omega (arith, ok.left_length))

  place_now : get_or next.place j 0 ≡ v
  place_now = get_or-set_same s.place j v 0 (omega (arith, ok.place_length))

  left_rest : (i : ℕ) → i ≢ j → get_or next.left i false ≡ get_or s.left i false
  left_rest i ne = get_or-set_other s.left j i false false ne

  place_rest : (i : ℕ) → i ≢ j → get_or next.place i 0 ≡ get_or s.place i 0
  place_rest i ne = get_or-set_other s.place j i v 0 ne

  left_before : (i : ℕ) → get_or next.left i false ≡ true → (i ≢ j) × (get_or s.left i false ≡ true)
  left_before i p = elim (eq-or-ne i j) [
    | inl e ↦ clash (subst (λ (k : ℕ). get_or next.left k false ≡ true) e p) left_now
    | inr ne ↦ (ne, sym (left_rest i ne) ∙ p)
  ]

  -- A rock that is not left was peeled before, or it is j.
  cases {ℓ} : (P : ℕ → ℕ → Type ℓ) → P j v
      → ((i : ℕ) → i < d.jobs → i ≢ j → rock d i ≡ true → get_or s.left i false ≡ false → P i (get_or s.place i 0))
      → (i : ℕ) → i < d.jobs → rock d i ≡ true → get_or next.left i false ≡ false → P i (get_or next.place i 0)
  cases P here there i hi r p = elim (eq-or-ne i j) [
    | inl e ↦ subst (λ (k : ℕ). P k (get_or next.place k 0)) (sym e) (subst (λ (x : ℕ). P j x) (sym place_now) here)
    | inr ne ↦ subst (λ (x : ℕ). P i x) (sym (place_rest i ne)) (there i hi ne r (sym (left_rest i ne) ∙ p))
  ]

  bare_after : (x i : ℕ) → i < d.jobs → left_at d s.left x i ≡ false → left_at d next.left x i ≡ false
  bare_after x i hi p = elim (split (left_at d next.left x i)) [
    | inl q ↦ clash (and_intro (left_before i (and_left (get_or next.left i false) (d.allows i x) q)).1
        (and_right (get_or next.left i false) (d.allows i x) q)) p
    | inr q ↦ q
  ]

  bare_here : (i : ℕ) → i < d.jobs → left_at d next.left v i ≡ false
  bare_here i hi = elim (split (left_at d next.left v i)) [
    | inl q ↦ let (ne, l) = left_before i (and_left (get_or next.left i false) (d.allows i v) q) in
        absurd (ne (only i hi (and_intro l (and_right (get_or next.left i false) (d.allows i v) q))))
    | inr q ↦ q
  ]

  -- In a placement bench v takes a rock f. Had f been peeled, v would have no rock left; so f is the only rock left at v.
  forced_here : (pl : ℕ → ℕ) → RockPlacement d pl → pl j ≡ v
  forced_here pl placed =
      let (f, hf, r, e) = placement_fills d sound pl placed v cycle v hv (component-self d v) in
      elim (split (get_or s.left f false)) [
        | inl l ↦ sym (cc (only f hf (and_intro l (subst (λ (x : ℕ). d.allows f x ≡ true) e (placed.allowed f hf r))))) ∙ e
        | inr l ↦ clash at (subst (λ (x : ℕ). left_at d s.left x j ≡ false) (sym (ok.peeled_forced pl placed f hf r l) ∙ e) (ok.peeled_bare f j hf h r l))
      ]

  pub peeled_step : Peeled d next
  peeled_step =
      record {
        left_length = length-set s.left j false ∙ ok.left_length;
        place_length = length-set s.place j v ∙ ok.place_length;
        left_rock = λ i hi p. ok.left_rock i hi (left_before i p).1;
        unplaced = λ i hi p. elim (eq-or-ne i j) [
          | inl e ↦ ⊎_elim (λ q. clash (ok.left_rock j h was_left) (subst (λ (k : ℕ). rock d k ≡ false) e q))
              (λ q. absurd ((left_before i q).0 e)) p
          | inr ne ↦ place_rest i ne ∙ ok.unplaced i hi (⊎_elim (λ q. inl q) (λ q. inr (left_before i q).1) p)
        ];
        peeled_cycle = cases (λ i x. one_cycle d x ≡ true) cycle (λ i hi ne r l. ok.peeled_cycle i hi r l);
        peeled_allowed = cases (λ i x. d.allows i x ≡ true) allowed_here (λ i hi ne r l. ok.peeled_allowed i hi r l);
        peeled_bare = λ i k hi hk r l.
            cases (λ i x. (k : ℕ) → k < d.jobs → left_at d next.left x k ≡ false) bare_here
            (λ i hi ne r l k hk. bare_after (get_or s.place i 0) k hk (ok.peeled_bare i k hi hk r l)) i hi r l k hk;
        peeled_forced = λ pl placed.
            cases (λ i x. pl i ≡ x) (forced_here pl placed) (λ i hi ne r l. ok.peeled_forced pl placed i hi r l);
      }

  fewer_left : count d.jobs (λ i. get_or next.left i false) < count d.jobs (λ i. get_or s.left i false)
  fewer_left = count-strict d.jobs (λ i. get_or next.left i false) (λ i. get_or s.left i false) j (λ i hi p. (left_before i p).1) h left_now was_left

-- ── all turns ──

module _ (d : Day) (s : State) where
  abbrev turn_bench : ℕ
  turn_bench = least d.benches (hanging d s.left)

  abbrev turn_rock : ℕ
  turn_rock = least d.jobs (left_at d s.left turn_bench)

  peel-stops : (k : ℕ) → ltb turn_bench d.benches ≡ false → peel (suc k) d s ≡ s
  unfolding peel
  peel-stops k e = cc

  peel-goes_on : (k : ℕ) → ltb turn_bench d.benches ≡ true
      → peel (suc k) d s ≡ peel k d (record { left = set s.left turn_rock false; place = set s.place turn_rock turn_bench })
  unfolding peel
  peel-goes_on k e = cc

abbrev pub Finished : Day → State → Type 0
Finished d s = (v : ℕ) → v < d.benches → hanging d s.left v ≡ false

module _ (d : Day) (sound : SoundDay d) where
  hanging-rock : (left : List Bool) (v : ℕ) → hanging d left v ≡ true → (i : ℕ) × (i < d.jobs) × (left_at d left v i ≡ true)
  hanging-rock left v p = count-pos_elim d.jobs (left_at d left v)
      (omega (arith, eqb-true (count d.jobs (left_at d left v)) 1 (and_right (one_cycle d v) (eqb (count d.jobs (left_at d left v)) 1) p)))

  -- Each turn takes one of the rocks that are left.
  pub peel-ends : (k : ℕ) (s : State) → Peeled d s → count d.jobs (λ i. get_or s.left i false) ≤ k
      → Peeled d (peel k d s) × Finished d (peel k d s)
  unfolding peel
  peel-ends zero s ok l = (
    ok,
    λ v hv. elim (split (hanging d s.left v)) [
      | inl p ↦ let (i, hi, q) = hanging-rock s.left v p in
          clash (and_left (get_or s.left i false) (d.allows i v) q) (count-zero d.jobs (λ i. get_or s.left i false) (omega arith) i hi)
      | inr p ↦ p
    ],
  )
  peel-ends (suc k) s ok l = elim (split (ltb (turn_bench d s) d.benches)) [
    | inl p ↦
        let hv : turn_bench d s < d.benches = ltb-true (turn_bench d s) d.benches p in
        let hangs = least-holds d.benches (hanging d s.left) hv in
        let (i, hi, q) = hanging-rock s.left (turn_bench d s) hangs in
        let h : turn_rock d s < d.jobs = omega (arith, least_bound d.jobs (left_at d s.left (turn_bench d s)) i q) in
        let at = least-holds d.jobs (left_at d s.left (turn_bench d s)) h in
        subst (λ (t : State). Peeled d t × Finished d t) (sym (peel-goes_on d s k p))
        (peel-ends k (record { left = set s.left (turn_rock d s) false; place = set s.place (turn_rock d s) (turn_bench d s) })
        (peeled_step d sound s ok (turn_bench d s) hv hangs (turn_rock d s) h at)
        (omega (arith, fewer_left d sound s ok (turn_bench d s) hv hangs (turn_rock d s) h at)))
    | inr p ↦ subst (λ (t : State). Peeled d t × Finished d t) (sym (peel-stops d s k p))
        (ok, λ v hv. least-before d.benches (hanging d s.left) v (omega (arith, ltb-false (turn_bench d s) d.benches p)))
  ]

  -- At first all rocks are left.
  none {ℓ} : {A : Type ℓ} (j : ℕ) → j < d.jobs → rock d j ≡ true → get_or (table d.jobs (rock d)) j false ≡ false → A
  none j h r l = clash r (sym (get_or-table d.jobs (rock d) j false h) ∙ l)

  unpeeled : Peeled d (record { left = table d.jobs (rock d); place = table d.jobs (lowest d) })
  unpeeled =
      record {
        left_length = length-table d.jobs (rock d);
        place_length = length-table d.jobs (lowest d);
        left_rock = λ j h p. sym (get_or-table d.jobs (rock d) j false h) ∙ p;
        unplaced = λ j h p. get_or-table d.jobs (lowest d) j 0 h;
        peeled_cycle = λ j h r l. none j h r l;
        peeled_allowed = λ j h r l. none j h r l;
        peeled_bare = λ j i h hi r l. none j h r l;
        peeled_forced = λ pl placed j h r l. none j h r l;
      }

  start-ends : Peeled d (start d) × Finished d (start d)
  unfolding start
  start-ends = peel-ends d.jobs (record { left = table d.jobs (rock d); place = table d.jobs (lowest d) }) unpeeled
      (count-le d.jobs (λ i. get_or (table d.jobs (rock d)) i false))

  pub start-peeled : Peeled d (start d)
  start-peeled = start-ends.0

  pub start-finished : Finished d (start d)
  start-finished = start-ends.1

  -- Peeled rocks have the bench that they were given, and all other jobs their lowest one.
  pub start-allowed : (j : ℕ) → j < d.jobs → d.allows j (get_or (start d).place j 0) ≡ true
  start-allowed j h = elim (split (rock d j)) [
    | inl r ↦ elim (split (get_or (start d).left j false)) [
      | inl l ↦ rw (start-peeled.unplaced j h (inr l)) (lowest-allowed d sound j h)
      | inr l ↦ start-peeled.peeled_allowed j h r l
    ]
    | inr r ↦ rw (start-peeled.unplaced j h (inl r)) (lowest-allowed d sound j h)
  ]

  pub start_left_rock : (j : ℕ) → j < d.jobs → get_or (start d).left j false ≡ true → rock d j ≡ true
  start_left_rock = start-peeled.left_rock

  pub start-forced : (pl : ℕ → ℕ) → RockPlacement d pl → (j : ℕ) → j < d.jobs → rock d j ≡ true → get_or (start d).left j false ≡ false
      → pl j ≡ get_or (start d).place j 0
  start-forced = start-peeled.peeled_forced
