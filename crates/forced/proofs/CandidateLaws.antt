-- A search through candidates finds what a search through all rocks finds.
--     listed_found, listed-none how a search through the rocks of entry v of here ends (its loop keeps Searched)
--     rock_found, rock_none     what the rock found says of the bench
--     some_yes, some_no         how a search for one such rock at a bench ends
--     bench_near                the bench found is below 64
--     bench_found, bench_none, bench_left     how a search through the benches of cand ends (its loop keeps Searched)
--     first_rock                the lowest rock of entry v is the least rock at v that meets P
--     candidate_lowest, candidate_none     the lowest bench found is the lowest end that P holds of, where cand covers P
--     nowhere                   where none is found, P holds nowhere
--     covers_left               the benches that were passed are no candidates any more
use Rattle.std.proofs.Common.{Some, None}
use Prim.Native.Nat.{ℕ, ◌≤◌, ◌<◌}
use mathlib.Core.Path.{◌≡◌, sym, subst, ◌∙◌}
use mathlib.Core.Bool.{Bool, true, false, ◌&&◌}
use mathlib.Core.Logic.{inl, inr}
use mathlib.Core.List.{List}
use native.Mathlib.Omega.{arith}
use lib.ListN.{get_or}
use lib.Dec.{ltb}
use borrow.Author.Tests.{lt-ltb, ltb-true}
use Rattle.bools.proofs.BoolLaws.{split, clash, and_intro, and_left, and_right}
use Rattle.sums.specs.Search.{any, least}
use Rattle.sums.proofs.SearchLaws.{any_intro, any_elim, any_false, least-holds, least-before, least-found, least-none}
use Rattle.bits.specs.Bits.{is_set}
use Rattle.rocks.specs.declared.rocks.Limits.{Limits}
use Rattle.algorithm.specs.Board.{Board}
use Rattle.sets.specs.Sets.{lowest_of}
use Rattle.rocks.specs.RockArrays.{lowest_end, touches_at}
use Rattle.rocks.specs.BoardArrays.{rocks_of, Rocks}
use Rattle.rock_graph.specs.Neighbours.{Incident}
use Rattle.forced.specs.SetArrays.{Covers, Nowhere}
use Rattle.forced.specs.CandidateArrays.{some_rock, rock_of, bench_of, Left}
use Rattle.forced.proofs.AnswerLaws.{first_at, first_past, some_first, none_first}
use Rattle.sets.proofs.SetRun.{Searched, searched_found, searched_none}
use Rattle.rocks.proofs.RockLaws.{end_below}
use Rattle.rocks.proofs.ScanLaws.{lowest-least, low_below, high_below}

-- ── the two searches ──

module _ (incident : List ℕ) (P : ℕ → ℕ → Bool) where
  pub rock_found : (v r : ℕ) → Some r ≡ rock_of incident P v → some_rock incident P v ≡ true
  unfolding rock_of some_rock
  rock_found v r q =
      let (e, h) = some_first (λ i. is_set 64 (get_or incident v 0) i && P i v) r q in
      any_intro 64 (λ i. is_set 64 (get_or incident v 0) i && P i v) r h
      (subst (λ (k : ℕ). (is_set 64 (get_or incident v 0) k && P k v) ≡ true) (sym e)
      (least-holds 64 (λ i. is_set 64 (get_or incident v 0) i && P i v) (subst (λ (k : ℕ). k < 64) e h)))

  pub rock_none : (v : ℕ) → None ≡ rock_of incident P v → some_rock incident P v ≡ false
  unfolding rock_of some_rock
  rock_none v q =
      let h = none_first (λ i. is_set 64 (get_or incident v 0) i && P i v) q in
      any_false 64 (λ i. is_set 64 (get_or incident v 0) i && P i v)
      (λ i l. least-before 64 (λ k. is_set 64 (get_or incident v 0) k && P k v) i (omega (arith, h)))

  pub bench_near : (cand v : ℕ) → Some v ≡ bench_of incident P cand → v < 64
  unfolding bench_of
  bench_near cand v q = (some_first (λ u. is_set 64 cand u && some_rock incident P u) v q).1

  module _ (v left : ℕ) (S : Searched (get_or incident v 0) (λ k. P k v) left) where
    pub listed_found : (r : ℕ) → r ≡ lowest_of left → r < 64 → P r v ≡ true → Some r ≡ rock_of incident P v
    unfolding rock_of
    listed_found r e h p =
        first_at (λ i. is_set 64 (get_or incident v 0) i && P i v) r (searched_found (get_or incident v 0) (λ k. P k v) left r S e h p) h

    pub listed-none : left ≤ 0 → None ≡ rock_of incident P v
    unfolding rock_of
    listed-none none =
        let e = searched_none (get_or incident v 0) (λ k. P k v) left S none in
        first_past (λ i. is_set 64 (get_or incident v 0) i && P i v) (omega (arith, e))

    pub some_yes : (r : ℕ) → r ≡ lowest_of left → r < 64 → P r v ≡ true → true ≡ some_rock incident P v
    some_yes r e h p = sym (rock_found v r (listed_found r e h p))

    pub some_no : left ≤ 0 → false ≡ some_rock incident P v
    some_no none = sym (rock_none v (listed-none none))

  module _ (cand left : ℕ) (S : Searched cand (some_rock incident P) left) where
    pub bench_found : (v : ℕ) → v ≡ lowest_of left → v < 64 → some_rock incident P v ≡ true
        → Some v ≡ bench_of incident P cand
    unfolding bench_of
    bench_found v e h p =
        first_at (λ u. is_set 64 cand u && some_rock incident P u) v (searched_found cand (some_rock incident P) left v S e h p) h

    pub bench_none : left ≤ 0 → None ≡ bench_of incident P cand
    unfolding bench_of
    bench_none none =
        let e = searched_none cand (some_rock incident P) left S none in
        first_past (λ u. is_set 64 cand u && some_rock incident P u) (omega (arith, e))

    pub bench_left : Left incident P cand left
    bench_left = record { inside = S.inside; passed = S.passed }

-- ── what they find ──

module _ (n : Limits) (low high incident : List ℕ) (H : Incident n low high incident) (few : n.rocks ≤ 64)
    (ends : (r : ℕ) → r < n.rocks → (get_or low r 0 < n.benches) × (get_or high r 0 < n.benches)) (narrow : n.benches ≤ 64) (P : ℕ → ℕ → Bool) where
  abbrev meets : ℕ → ℕ → Bool
  meets v r = touches_at low high r v && P r v

  abbrev listed : ℕ → ℕ → Bool
  listed v r = is_set 64 (get_or incident v 0) r && P r v

  listed-meets : (v r : ℕ) → v < 64 → r < 64 → listed v r ≡ true → (r < n.rocks) × (meets v r ≡ true)
  listed-meets v r hv hr p =
      let both = sym (H.rocks_at v r hv hr) ∙ and_left (is_set 64 (get_or incident v 0) r) (P r v) p in (
        ltb-true r n.rocks (and_left (ltb r n.rocks) (touches_at low high r v) both),
        and_intro (and_right (ltb r n.rocks) (touches_at low high r v) both) (and_right (is_set 64 (get_or incident v 0) r) (P r v) p),
      )

  meets-listed : (v r : ℕ) → v < 64 → r < n.rocks → meets v r ≡ true → listed v r ≡ true
  meets-listed v r hv hr p =
      and_intro (H.rocks_at v r hv (omega arith) ∙ and_intro (lt-ltb r n.rocks hr) (and_left (touches_at low high r v) (P r v) p))
      (and_right (touches_at low high r v) (P r v) p)

  not_listed : (v r : ℕ) → v < 64 → r < n.rocks → listed v r ≡ false → meets v r ≡ false
  not_listed v r hv hr p = elim (split (meets v r)) [ inl q ↦ clash (meets-listed v r hv hr q) p | inr q ↦ q ]

  some-meets : (v : ℕ) → v < 64 → some_rock incident P v ≡ true → any n.rocks (meets v) ≡ true
  unfolding some_rock
  some-meets v hv p =
      let (r, h, q) = any_elim 64 (listed v) p in
      let there = listed-meets v r hv h q in
      any_intro n.rocks (meets v) r there.0 there.1

  none-meets : (v : ℕ) → v < 64 → some_rock incident P v ≡ false → any n.rocks (meets v) ≡ false
  unfolding some_rock
  none-meets v hv p = elim (split (any n.rocks (meets v))) [
    | inr q ↦ q
    | inl q ↦
        let (r, h, m) = any_elim n.rocks (meets v) q in
        clash (any_intro 64 (listed v) r (omega arith) (meets-listed v r hv h m)) p
  ]

  -- The rock that is found at a bench.
  pub record Met (v r : ℕ) : Type 0 where
    pub below : r < n.rocks
    pub touched : touches_at low high r v ≡ true
    pub met : P r v ≡ true

  pub rock_met : (v r : ℕ) → v < 64 → Some r ≡ rock_of incident P v → Met v r
  unfolding rock_of
  rock_met v r hv q =
      let (e, h) = some_first (λ i. is_set 64 (get_or incident v 0) i && P i v) r q in
      let holds : listed v r ≡ true = subst (λ (k : ℕ). listed v k ≡ true) (sym e) (least-holds 64 (listed v) (subst (λ (k : ℕ). k < 64) e h)) in
      let there = listed-meets v r hv h holds in
      record {
        below = there.0;
        touched = and_left (touches_at low high r v) (P r v) there.1;
        met = and_right (touches_at low high r v) (P r v) there.1;
      }

  pub first_rock : (v r : ℕ) → v < 64 → Some r ≡ rock_of incident P v
      → r ≡ least n.rocks (λ i. touches_at low high i v && P i v)
  unfolding rock_of
  first_rock v r hv q =
      let (e, h) = some_first (λ i. is_set 64 (get_or incident v 0) i && P i v) r q in
      let M = rock_met v r hv q in
      sym (least-found n.rocks (meets v) r M.below (and_intro M.touched M.met)
      (λ i l. not_listed v i hv (omega (arith, M.below)) (least-before 64 (listed v) i (subst (λ (k : ℕ). i < k) e l))))

  module _ (cand : ℕ) (C : Covers n low high P cand) where
    -- A bench at which a rock meets P is a candidate with a rock that is listed.
    covered : (u : ℕ) → any n.rocks (meets u) ≡ true → (is_set 64 cand u && some_rock incident P u) ≡ true
    unfolding some_rock
    covered u p =
        let (r, h, m) = any_elim n.rocks (meets u) p in
        let t = and_left (touches_at low high r u) (P r u) m in
        let hu : u < 64 = omega (arith, end_below low high n.benches r u (ends r h) t) in
        and_intro (C r u h t (and_right (touches_at low high r u) (P r u) m)) (any_intro 64 (listed u) r (omega arith) (meets-listed u r hu h m))

    not_covered : (u : ℕ) → (is_set 64 cand u && some_rock incident P u) ≡ false → any n.rocks (meets u) ≡ false
    not_covered u p = elim (split (any n.rocks (meets u))) [ inl q ↦ clash (covered u q) p | inr q ↦ q ]

    before_found : (u : ℕ) → u < least 64 (λ u. is_set 64 cand u && some_rock incident P u) → any n.rocks (meets u) ≡ false
    before_found u l = not_covered u (least-before 64 (λ u. is_set 64 cand u && some_rock incident P u) u l)

    pub candidate_some : (v : ℕ) → Some v ≡ bench_of incident P cand
        → (is_set 64 cand v ≡ true) × (some_rock incident P v ≡ true)
    unfolding bench_of
    candidate_some v q =
        let (e, h) = some_first (λ u. is_set 64 cand u && some_rock incident P u) v q in
        let both : (is_set 64 cand v && some_rock incident P v) ≡ true =
        subst (λ (k : ℕ). (is_set 64 cand k && some_rock incident P k) ≡ true) (sym e)
        (least-holds 64 (λ k. is_set 64 cand k && some_rock incident P k) (subst (λ (k : ℕ). k < 64) e h)) in
        (and_left (is_set 64 cand v) (some_rock incident P v) both, and_right (is_set 64 cand v) (some_rock incident P v) both)

    pub candidate_below : (v : ℕ) → Some v ≡ bench_of incident P cand → v < n.benches
    unfolding bench_of
    candidate_below v q =
        let h = (some_first (λ u. is_set 64 cand u && some_rock incident P u) v q).1 in
        let (r, l, m) = any_elim n.rocks (meets v) (some-meets v h (candidate_some v q).1) in
        end_below low high n.benches r v (ends r l) (and_left (touches_at low high r v) (P r v) m)

    pub candidate_lowest : (v : ℕ) → Some v ≡ bench_of incident P cand → v ≡ lowest_end n.benches n.rocks low high P
    unfolding bench_of
    candidate_lowest v q =
        let (e, h) = some_first (λ u. is_set 64 cand u && some_rock incident P u) v q in
        sym (lowest-least n.benches low high P n.rocks ends
        ∙ least-found n.benches (λ u. any n.rocks (meets u)) v (candidate_below v q) (some-meets v h (candidate_some v q).1)
        (λ u l. before_found u (subst (λ (k : ℕ). u < k) e l)))

    pub candidate_none : None ≡ bench_of incident P cand → n.benches ≡ lowest_end n.benches n.rocks low high P
    unfolding bench_of
    candidate_none q =
        let h = none_first (λ u. is_set 64 cand u && some_rock incident P u) q in
        sym (lowest-least n.benches low high P n.rocks ends
        ∙ least-none n.benches (λ u. any n.rocks (meets u)) (λ u l. before_found u (omega (arith, h))))

    pub nowhere : None ≡ bench_of incident P cand → Nowhere n low high P
    unfolding bench_of
    nowhere none r u l t = elim (split (P r u)) [
      | inr q ↦ q
      | inl q ↦
          let h = none_first (λ u. is_set 64 cand u && some_rock incident P u) none in
          let hu : u < least 64 (λ u. is_set 64 cand u && some_rock incident P u) = omega (arith, h, end_below low high n.benches r u (ends r l) t) in
          clash (any_intro n.rocks (meets u) r l (and_intro t q)) (before_found u hu)
    ]

    pub covers_left : (left : ℕ) → Left incident P cand left → Covers n low high P left
    covers_left left L r u l t q =
        let hu : u < 64 = omega (arith, end_below low high n.benches r u (ends r l) t) in
        elim (split (is_set 64 left u)) [
          | inl p ↦ p
          | inr p ↦ clash (any_intro n.rocks (meets u) r l (and_intro t q)) (none-meets u hu (L.passed u hu (C r u l t q) p))
        ]

-- ── of a board ──

module _ (b : Board) (n : Limits) (low high weight : List ℕ) (R : Rocks b n low high weight) where
  pub rock-ends : (r : ℕ) → r < n.rocks → (get_or low r 0 < n.benches) × (get_or high r 0 < n.benches)
  rock-ends r h =
      let l : r < rocks_of b = omega (arith, R.rocks) in
      (omega (arith, R.benches, low_below b n low high weight R r l), omega (arith, R.benches, high_below b n low high weight R r l))

  pub few-rocks : rocks_of b ≤ 64 → n.rocks ≤ 64
  few-rocks h = omega (arith, R.rocks)

  pub few_benches : n.benches ≤ 64
  few_benches = omega (arith, R.benches, R.few_benches)
