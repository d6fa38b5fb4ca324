-- The candidates of FORCED ORIENTATIONS: which benches a rock can be forced from.
--     Source                           the bench and the rock that a search through the candidates finds are those of a search through all rocks
--     forces_after, tails_next         the candidates after a rock is directed, and the benches that one was directed away from
--     nowhere_forced                   at the end no rock is forced
use Rattle.std.proofs.Common.{Some, None}
use Prim.Native.Nat.{ℕ, ◌+◌, ◌≤◌, ◌<◌}
use mathlib.Core.Path.{◌≡◌, refl, sym, ap, subst, ◌∙◌}
use mathlib.Core.Bool.{Bool, true, false, cond, ◌&&◌, ◌||◌}
use mathlib.Core.Logic.{inl, inr, ◌≢◌}
use mathlib.Core.List.{List}
use native.Mathlib.Omega.{arith}
use lib.ListN.{length, get_or, set}
use lib.Dec.{eqb, ltb}
use lib.Seq.{get_or-set_same, get_or-set_other}
use borrow.Author.Tests.{eq-eqb, ne_eqb, le-ltb, eqb-true}
use Rattle.bools.proofs.BoolLaws.{split, and_intro, and_left, and_right, and-false_left, and-false_right, or_left, or_right, or_elim}
use Rattle.bools.proofs.OrderLaws.{eq-or-ne}
use Rattle.sums.specs.Search.{least}
use Rattle.sums.proofs.SearchLaws.{any_cong}
use Rattle.sums.proofs.CountLaws.{count-le}
use Rattle.bits.specs.Bits.{is_set}
use Rattle.rocks.specs.declared.rocks.Limits.{Limits}
use Rattle.algorithm.specs.Board.{Board, Directions, touches, neutral, load}
use Rattle.algorithm.specs.Forced.{forced_orientations}
use Rattle.algorithm.proofs.StepLaws.{unforced}
use Rattle.algorithm.proofs.TurnLaws.{outer-stable}
use Rattle.algorithm.specs.Properties.{Pointed}
use Rattle.arrays.specs.Arrays.{plus_of}
use Rattle.rocks.specs.RockArrays.{lowest_end, touches_at, other_at}
use Rattle.forced.specs.SetArrays.{forced_at, forces_at, Covers, Nowhere, Tails}
use Rattle.rocks.specs.BoardArrays.{rocks_of, rock_at, Rocks, Seen}
use Rattle.rock_graph.specs.Neighbours.{Incident}
use Rattle.forced.specs.CandidateArrays.{some_rock, rock_of, bench_of, Left}
use Rattle.forced.proofs.AnswerLaws.{first_cong}
use Rattle.rocks.proofs.RockLaws.{end_below}
use Rattle.rocks.proofs.ScanLaws.{rock_below, rock_holds, touches_at_lem}
use Rattle.forced.proofs.CandidateLaws.{bench_near, rock_met, first_rock, candidate_below, candidate_some, candidate_lowest, candidate_none, rock-ends, few-rocks, few_benches}

-- ── marked benches ──

and_middle : (a m c : Bool) → m ≡ true → (a && c) ≡ (a && m && c)
and_middle true m c e = rw e
and_middle false m c e = refl

-- Every candidate is marked.
abbrev pub Inside : ℕ → List Bool → Type 0
Inside cand marked = (v : ℕ) → v < 64 → is_set 64 cand v ≡ true → get_or marked v false ≡ true

module _ (bound : ℕ) (weight dir loads : List ℕ) (marked : List Bool) where
  abbrev F : ℕ → ℕ → Bool
  F = forces_at bound weight dir loads

  abbrev M : ℕ → ℕ → Bool
  M = forced_at bound weight dir loads marked

  pub forces-marked : (r v : ℕ) → get_or marked v false ≡ true → F r v ≡ M r v
  forces-marked r v m = and_middle (eqb (get_or dir r 0) 0) (get_or marked v false) (ltb bound (get_or loads v 0 + get_or weight r 0)) m

  pub forced_marked : (r v : ℕ) → M r v ≡ true → get_or marked v false ≡ true
  forced_marked r v p =
      and_right (eqb (get_or dir r 0) 0) (get_or marked v false)
      (and_left (eqb (get_or dir r 0) 0 && get_or marked v false) (ltb bound (get_or loads v 0 + get_or weight r 0)) p)

  pub forced_forces : (r v : ℕ) → M r v ≡ true → F r v ≡ true
  forced_forces r v p = forces-marked r v (forced_marked r v p) ∙ p

  module _ (incident : List ℕ) (cand : ℕ) (I : Inside cand marked) where
    listed_same : (v : ℕ) → v < 64 → is_set 64 cand v ≡ true → (r : ℕ) → (is_set 64 (get_or incident v 0) r && F r v) ≡ (is_set 64 (get_or incident v 0) r && M r v)
    listed_same v h p r = ap (λ (x : Bool). is_set 64 (get_or incident v 0) r && x) (forces-marked r v (I v h p))

    some_same : (v : ℕ) → v < 64 → is_set 64 cand v ≡ true → some_rock incident F v ≡ some_rock incident M v
    unfolding some_rock
    some_same v h p =
        any_cong 64 (λ r. is_set 64 (get_or incident v 0) r && F r v) (λ r. is_set 64 (get_or incident v 0) r && M r v) (λ r l. listed_same v h p r)

    pub rock_same : (v : ℕ) → v < 64 → is_set 64 cand v ≡ true → rock_of incident F v ≡ rock_of incident M v
    unfolding rock_of
    rock_same v h p =
        first_cong (λ r. is_set 64 (get_or incident v 0) r && F r v) (λ r. is_set 64 (get_or incident v 0) r && M r v) (λ r l. listed_same v h p r)

    pub bench_same : bench_of incident F cand ≡ bench_of incident M cand
    unfolding bench_of
    bench_same = first_cong (λ v. is_set 64 cand v && some_rock incident F v) (λ v. is_set 64 cand v && some_rock incident M v) (λ v h. elim (split (is_set 64 cand v)) [
      | inl p ↦ ap (λ (x : Bool). is_set 64 cand v && x) (some_same v h p)
      | inr p ↦ and-false_left (some_rock incident F v) p ∙ sym (and-false_left (some_rock incident M v) p)
    ])

    pub left_same : (left : ℕ) → Left incident F cand left → Left incident M cand left
    left_same left L = record { inside = L.inside; passed = λ u h p q. sym (some_same u h p) ∙ L.passed u h p q }

module _ (b : Board) (n : Limits) (low high weight : List ℕ) (R : Rocks b n low high weight) where
  -- ── what a search finds ──

  pub bench_below : (r v : ℕ) → r < n.rocks → touches_at low high r v ≡ true → v < 64
  bench_below r v h t = omega (arith, end_below low high n.benches r v (rock-ends b n low high weight R r h) t, few_benches b n low high weight R)

  pub record Source (dir loads : List ℕ) (marked : List Bool) (v r : ℕ) : Type 0 where
    pub lowest : v ≡ lowest_end n.benches n.rocks low high (forced_at n.bound weight dir loads marked)
    pub some : v ≢ n.benches
    pub first : r ≡ least n.rocks (λ i. touches_at low high i v && forced_at n.bound weight dir loads marked i v)
    pub below : r < n.rocks
    pub touched : touches_at low high r v ≡ true
    pub near : v < 64

  module _ (incident : List ℕ) (few : rocks_of b ≤ 64) (H : Incident n low high incident) (dir loads : List ℕ) (marked : List Bool) (cand : ℕ)
      (C : Covers n low high (forced_at n.bound weight dir loads marked) cand) (I : Inside cand marked) where
    abbrev P : ℕ → ℕ → Bool
    P = forced_at n.bound weight dir loads marked

    ends : (r : ℕ) → r < n.rocks → (get_or low r 0 < n.benches) × (get_or high r 0 < n.benches)
    ends = rock-ends b n low high weight R

    same : bench_of incident (forces_at n.bound weight dir loads) cand ≡ bench_of incident P cand
    same = bench_same n.bound weight dir loads marked incident cand I

    pub search_found : (v r : ℕ) → Some v ≡ bench_of incident (forces_at n.bound weight dir loads) cand
        → Some r ≡ rock_of incident (forces_at n.bound weight dir loads) v → Source dir loads marked v r
    search_found v r bench rock =
        let at : Some v ≡ bench_of incident P cand = bench ∙ same in
        let h : v < 64 = bench_near incident P cand v at in
        let is-cand = (candidate_some n low high incident H (few-rocks b n low high weight R few) ends (few_benches b n low high weight R) P cand C v at).0 in
        let there : Some r ≡ rock_of incident P v =
        rock ∙ rock_same n.bound weight dir loads marked incident cand I v h is-cand in
        let met = rock_met n low high incident H (few-rocks b n low high weight R few) ends (few_benches b n low high weight R) P v r h there in
        record {
          lowest = candidate_lowest n low high incident H (few-rocks b n low high weight R few) ends (few_benches b n low high weight R) P cand C v at;
          some = λ q. omega (arith, candidate_below n low high incident H (few-rocks b n low high weight R few) ends (few_benches b n low high weight R) P cand C v at);
          first = first_rock n low high incident H (few-rocks b n low high weight R few) ends (few_benches b n low high weight R) P v r h there;
          below = met.below;
          touched = met.touched;
          near = h;
        }

    pub search_none : None ≡ bench_of incident (forces_at n.bound weight dir loads) cand
        → n.benches ≡ lowest_end n.benches n.rocks low high P
    search_none none =
        candidate_none n low high incident H (few-rocks b n low high weight R few) ends (few_benches b n low high weight R) P cand C
        (none ∙ same)

  -- ── after a rock is directed ──

  ends_apart : (r : ℕ) → r < n.rocks → get_or low r 0 ≢ get_or high r 0
  ends_apart r h e =
      let l : r < rocks_of b = omega (arith, R.rocks) in
      let j = rock_at b r in
      omega (
        arith,
        R.lows r l,
        R.highs r l,
        R.sound.ends_differ j (rock_below b n low high weight R r l) (rock_holds b n low high weight R r l),
      )

  other_low_end : (r v : ℕ) → v ≡ get_or low r 0 → other_at low high r v ≡ get_or high r 0
  other_low_end r v e = ap (λ (x : Bool). cond x (get_or high r 0) (get_or low r 0)) (eq-eqb v (get_or low r 0) e)

  other_high_end : (r v : ℕ) → r < n.rocks → v ≡ get_or high r 0 → other_at low high r v ≡ get_or low r 0
  other_high_end r v h e =
      ap (λ (x : Bool). cond x (get_or high r 0) (get_or low r 0)) (ne_eqb v (get_or low r 0) (λ q. ends_apart r h (sym q ∙ e)))

  pub other_near : (r v : ℕ) → r < n.rocks → touches_at low high r v ≡ true → other_at low high r v < 64
  other_near r v h t = elim (or_elim (eqb v (get_or low r 0)) (eqb v (get_or high r 0)) t) [
    | inl p ↦ omega (arith, other_low_end r v (eqb-true v (get_or low r 0) p), (rock-ends b n low high weight R r h).1, few_benches b n low high weight R)
    | inr p ↦ omega (arith, other_high_end r v h (eqb-true v (get_or high r 0) p), (rock-ends b n low high weight R r h).0, few_benches b n low high weight R)
  ]

  other_same : (r v w : ℕ) → r < n.rocks → touches_at low high r v ≡ true → touches_at low high r w ≡ true → other_at low high r v ≡ other_at low high r w → w ≡ v
  other_same r v w h t s e = elim (or_elim (eqb v (get_or low r 0)) (eqb v (get_or high r 0)) t) [
    | inl p ↦ elim (or_elim (eqb w (get_or low r 0)) (eqb w (get_or high r 0)) s) [
      | inl q ↦ eqb-true w (get_or low r 0) q ∙ sym (eqb-true v (get_or low r 0) p)
      | inr q ↦ absurd (ends_apart r h (sym (other_high_end r w h (eqb-true w (get_or high r 0) q)) ∙ sym e ∙ other_low_end r v (eqb-true v (get_or low r 0) p)))
    ]
    | inr p ↦ elim (or_elim (eqb w (get_or low r 0)) (eqb w (get_or high r 0)) s) [
      | inl q ↦ absurd (ends_apart r h (sym (other_high_end r v h (eqb-true v (get_or high r 0) p)) ∙ e ∙ other_low_end r w (eqb-true w (get_or low r 0) q)))
      | inr q ↦ eqb-true w (get_or high r 0) q ∙ sym (eqb-true v (get_or high r 0) p)
    ]
  ]

  module _ (r v u : ℕ) (h : r < n.rocks) (t : touches_at low high r v ≡ true) (at : u ≡ other_at low high r v) (dir : List ℕ) (room : r < length dir) where
    pub forces_after : (loads : List ℕ) (x : ℕ) (s w : ℕ) → forces_at n.bound weight (set dir r (plus_of u 1)) (set loads u x) s w ≡ true → w ≢ u
        → forces_at n.bound weight dir loads s w ≡ true
    forces_after loads x s w p ne =
        let free : get_or (set dir r (plus_of u 1)) s 0 ≡ 0 =
        eqb-true (get_or (set dir r (plus_of u 1)) s 0) 0
        (and_left (eqb (get_or (set dir r (plus_of u 1)) s 0) 0) (ltb n.bound (get_or (set loads u x) w 0 + get_or weight s 0)) p) in
        let more : ltb n.bound (get_or (set loads u x) w 0 + get_or weight s 0) ≡ true =
        and_right (eqb (get_or (set dir r (plus_of u 1)) s 0) 0) (ltb n.bound (get_or (set loads u x) w 0 + get_or weight s 0)) p in
        elim (eq-or-ne s r) [
          | inl e ↦
              let full : plus_of u 1 ≡ 0 =
              sym (get_or-set_same dir r (plus_of u 1) 0 room) ∙ ap (λ (k : ℕ). get_or (set dir r (plus_of u 1)) k 0) (sym e) ∙ free in
              absurd (omega (arith, full))
          | inr apart ↦
              and_intro (eq-eqb (get_or dir s 0) 0 (sym (get_or-set_other dir r s (plus_of u 1) 0 apart) ∙ free))
              (ap (λ (k : ℕ). ltb n.bound (k + get_or weight s 0)) (sym (get_or-set_other loads u w x 0 ne)) ∙ more)
        ]

    pub tails_next : (dir₁ : List ℕ) (tails tails' : ℕ) → ((w : ℕ) → w < 64 → is_set 64 tails' w ≡ (is_set 64 tails w || eqb w v))
        → Tails n low high dir₁ dir tails → Tails n low high dir₁ (set dir r (plus_of u 1)) tails'
    tails_next dir₁ tails tails' more T s w hs ts free d =
        let hw : w < 64 = bench_below s w hs ts in
        more w hw ∙ elim (eq-or-ne s r) [
          | inl e ↦
              let tr : touches_at low high r w ≡ true = subst (λ (k : ℕ). touches_at low high k w ≡ true) e ts in
              let same : plus_of u 1 ≡ plus_of (other_at low high r w) 1 =
              sym (get_or-set_same dir r (plus_of u 1) 0 room) ∙ ap (λ (k : ℕ). get_or (set dir r (plus_of u 1)) k 0) (sym e) ∙ d
              ∙ ap (λ (k : ℕ). plus_of (other_at low high k w) 1) e in
              let far : other_at low high r v ≡ other_at low high r w =
              omega (arith, same, at, other_near r v h t, other_near r w h tr) in
              or_right (is_set 64 tails w) (eq-eqb w v (other_same r v w h t tr far))
          | inr apart ↦ or_left (eqb w v) (T s w hs ts free (sym (get_or-set_other dir r s (plus_of u 1) 0 apart) ∙ d))
        ]

  -- ── the end ──

  pub nowhere_forced : (dirs : Directions) (dir loads : List ℕ) → Pointed b dirs → Seen b (forced_orientations b dirs) dir loads
      → Nowhere n low high (forces_at n.bound weight dir loads)
  nowhere_forced dirs dir loads pointed S r v h t =
      let l : r < rocks_of b = omega (arith, R.rocks) in
      let j = rock_at b r in
      let D = forced_orientations b dirs in
      let hv : v < b.benches = subst (λ (k : ℕ). v < k) R.benches (end_below low high n.benches r v (rock-ends b n low high weight R r h) t) in
      let there : touches b j v ≡ true = sym (touches_at_lem b n low high weight R r v l) ∙ t in
      let still = outer-stable b R.sound b.jobs dirs pointed (count-le b.jobs (neutral dirs)) v hv in
      rw (S.directed.entries r l, S.loaded.entries v hv, R.weights r l, R.bound)
      (elim (split (neutral D j)) [
        | inl p ↦
            and-false_right (neutral D j) (le-ltb b.bound (load b D v + b.weight j)
            (unforced b D v still j (rock_below b n low high weight R r l) there p))
        | inr p ↦ and-false_left (ltb b.bound (load b D v + b.weight j)) p
      ])
