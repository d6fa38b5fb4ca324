-- Joining blocking sets that share no bench gives a blocking set (request S-7), of the words of the demand alone.
--     union-blocking        two sets
--     page_blocking         any number of sets, at least one
--     grouping_blocking     and each union that is made on the way, in whatever order and grouping they are joined
--
-- Why. A heavy job that is placed inside one of two sets is inside their union, and it is inside one of them only,
-- since its bench is; what is booked counts likewise. A light job whose benches all lie in one set has them all in the
-- union, and not all in the other set as well, since it has a bench. So in every placement the union weighs no less
-- than both sets together, more than k × T and l × T; and it has k + l benches.
use Prim.Native.Nat.{ℕ, zero, suc, ◌+◌, ◌*◌, ◌≤◌, ◌<◌}
use mathlib.Core.Path.{◌≡◌, refl, sym, ap, subst, fun_ext, ◌∙◌}
use mathlib.Core.Bool.{Bool, true, false, not, ◌&&◌, ◌||◌}
use mathlib.Core.Logic.{◌⊎◌, inl, inr}
use native.Mathlib.Omega.{arith}
use borrow.Author.Tests.{eq-eqb}
use Rattle.bools.proofs.BoolLaws.{split, clash, bool_ext, and_intro, and_left, and_right, or_left, or_right, or_elim}
use Rattle.bools.proofs.BoolLaws.{or_nothing, not_intro_false}
use Rattle.bools.proofs.OrderLaws.{last_or_below}
use Rattle.sums.specs.Sum.{on, sum, count}
use Rattle.sums.specs.Search.{any}
use Rattle.sums.proofs.SumLaws.{sum-on-subset, sum-on-union}
use Rattle.sums.proofs.CountLaws.{count_add}
use Rattle.sums.proofs.SearchLaws.{any_intro, any_elim, all_intro, all_elim}
use Rattle.day.specs.Day.{Day, heavy, light}
use Rattle.demand.specs.Demand.{kept_inside, lies_inside, Blocking}
use Rattle.unions.specs.Unions.{union, Disjoint, union_of, NoneShared, Grouping, one, join, joined, names}
use Rattle.unions.specs.Unions.{EachHasBench}
use Rattle.unions.proofs.UnionLaws.{in-joined, joined_in}

-- Two sums over sets that share nothing are no more than the sum over a set that has both.
two_in_one : (n : ℕ) (P Q U : ℕ → Bool) (f : ℕ → ℕ) → ((i : ℕ) → i < n → P i ≡ true → Q i ≡ true → ⊥)
    → ((i : ℕ) → i < n → P i ≡ true → U i ≡ true) → ((i : ℕ) → i < n → Q i ≡ true → U i ≡ true)
    → sum n (λ i. on (P i) (f i)) + sum n (λ i. on (Q i) (f i)) ≤ sum n (λ i. on (U i) (f i))
two_in_one n P Q U f apart p q =
    let both = sum-on-union n P Q f apart in
    let less = sum-on-subset n (λ i. P i || Q i) U f
    (λ i l e. elim (or_elim (P i) (Q i) e) [ inl a ↦ p i l a | inr b ↦ q i l b ]) in
    omega (arith, both, less)

module _ (d : Day) (some : EachHasBench d) where
  -- ── two sets ──

  module _ (S R : ℕ → Bool) where
    lies_left : (j : ℕ) → lies_inside d S j ≡ true → lies_inside d (union S R) j ≡ true
    lies_left j p =
        all_intro d.benches (kept_inside d (union S R) j) (λ v l.
        elim (or_elim (not (d.allows j v)) (S v) (all_elim d.benches (kept_inside d S j) p v l)) [
          | inl out ↦ or_left (union S R v) out
          | inr in-it ↦ or_right (not (d.allows j v)) (or_left (R v) in-it)
        ])

    lies_right : (j : ℕ) → lies_inside d R j ≡ true → lies_inside d (union S R) j ≡ true
    lies_right j p =
        all_intro d.benches (kept_inside d (union S R) j) (λ v l.
        elim (or_elim (not (d.allows j v)) (R v) (all_elim d.benches (kept_inside d R j) p v l)) [
          | inl out ↦ or_left (union S R v) out
          | inr in-it ↦ or_right (not (d.allows j v)) (or_right (S v) in-it)
        ])

    module _ (apart : Disjoint S R) where
      -- A bench that a job allows is in the set in which all of its benches lie.
      bench_inside : (set : ℕ → Bool) (j v : ℕ) → v < d.benches → d.allows j v ≡ true → lies_inside d set j ≡ true
          → set v ≡ true
      bench_inside set j v l a p =
          elim (or_elim (not (d.allows j v)) (set v) (all_elim d.benches (kept_inside d set j) p v l)) [
            | inl out ↦ clash out (not_intro_false a)
            | inr in-it ↦ in-it
          ]

      not-in_both : (j : ℕ) → j < d.jobs → lies_inside d S j ≡ true → lies_inside d R j ≡ true → ⊥
      not-in_both j l p q =
          let (v, below, a) = some j l in
          apart v (bench_inside S j v below a p) (bench_inside R j v below a q)

      booked_more : sum d.benches (λ v. on (S v) (d.booked v)) + sum d.benches (λ v. on (R v) (d.booked v))
          ≤ sum d.benches (λ v. on (union S R v) (d.booked v))
      booked_more =
          two_in_one d.benches S R (union S R) d.booked (λ v l. apart v) (λ v l p. or_left (R v) p)
          (λ v l p. or_right (S v) p)

      heavy-more : (place : ℕ → ℕ) → sum d.jobs (λ j. on (heavy d j && S (place j)) (d.minutes j))
          + sum d.jobs (λ j. on (heavy d j && R (place j)) (d.minutes j))
          ≤ sum d.jobs (λ j. on (heavy d j && union S R (place j)) (d.minutes j))
      heavy-more place =
          two_in_one d.jobs (λ j. heavy d j && S (place j)) (λ j. heavy d j && R (place j))
          (λ j. heavy d j && union S R (place j)) d.minutes
          (λ j l p q. apart (place j) (and_right (heavy d j) (S (place j)) p) (and_right (heavy d j) (R (place j)) q))
          (λ j l p. and_intro (and_left (heavy d j) (S (place j)) p)
          (or_left (R (place j)) (and_right (heavy d j) (S (place j)) p)))
          (λ j l p. and_intro (and_left (heavy d j) (R (place j)) p)
          (or_right (S (place j)) (and_right (heavy d j) (R (place j)) p)))

      light-more : sum d.jobs (λ j. on (light d j && lies_inside d S j) (d.minutes j))
          + sum d.jobs (λ j. on (light d j && lies_inside d R j) (d.minutes j))
          ≤ sum d.jobs (λ j. on (light d j && lies_inside d (union S R) j) (d.minutes j))
      light-more =
          two_in_one d.jobs (λ j. light d j && lies_inside d S j) (λ j. light d j && lies_inside d R j)
          (λ j. light d j && lies_inside d (union S R) j) d.minutes
          (λ j l p q. not-in_both j l (and_right (light d j) (lies_inside d S j) p)
          (and_right (light d j) (lies_inside d R j) q))
          (λ j l p. and_intro (and_left (light d j) (lies_inside d S j) p)
          (lies_left j (and_right (light d j) (lies_inside d S j) p)))
          (λ j l p. and_intro (and_left (light d j) (lies_inside d R j) p)
          (lies_right j (and_right (light d j) (lies_inside d R j) p)))

      benches-add : count d.benches (union S R) ≡ count d.benches S + count d.benches R
      benches-add = count_add d.benches S R (λ v l. apart v)

      pub union-blocking : Blocking d S → Blocking d R → Blocking d (union S R)
      union-blocking s r =
          record {
            some_bench = omega (arith, benches-add, s.some_bench);
            heavier = λ place pl.
                let target = ap (λ (k : ℕ). k * d.target) benches-add in
                omega
                (arith, target, s.heavier place pl, r.heavier place pl, booked_more, heavy-more place, light-more);
          }

  -- ── any number of sets ──

  module _ (n : ℕ) (sets : ℕ → ℕ → Bool) (each : (i : ℕ) → i < n → Blocking d (sets i))
      (apart : NoneShared n sets) where
    module _ (pick : ℕ → Bool) where
      -- The benches of those among the first k sets that are picked.
      abbrev picked : ℕ → ℕ → Bool
      picked k v = any k (λ i. pick i && sets i v)

      none_yet : (k : ℕ) → ((i : ℕ) → i < k → pick i ≡ false) → (v : ℕ) → picked k v ≡ false
      none_yet zero out v = refl
      none_yet (suc k) out v = rw (none_yet k (λ i l. out i (omega arith)) v, out k (omega arith)) refl

      one_more : (k : ℕ) → pick k ≡ true → picked (suc k) ≡ union (picked k) (sets k)
      one_more k p = fun_ext (λ v. rw p refl)

      passed_over : (k : ℕ) → pick k ≡ false → picked (suc k) ≡ picked k
      passed_over k p = fun_ext (λ v. rw p (or_nothing (picked k v)))

      before_apart : (k : ℕ) → k < n → Disjoint (picked k) (sets k)
      before_apart k l v p q =
          let (i, below, both) = any_elim k (λ i. pick i && sets i v) p in
          apart i k below l v (and_right (pick i) (sets i v) both) q

      -- None of them is picked, or the union of those that are is blocking.
      so_far : (k : ℕ) → k ≤ n → ((i : ℕ) → i < k → pick i ≡ false) ⊎ Blocking d (picked k)
      so_far zero l = inl (λ i z. absurd (omega arith))
      so_far (suc k) l = elim (split (pick k)) [
        | inl p ↦ inr (subst (Blocking d) (sym (one_more k p)) (elim (so_far k (omega arith)) [
          | inl out ↦
              subst (Blocking d) (fun_ext (λ v. ap (λ (b : Bool). b || sets k v) (sym (none_yet k out v))))
              (each k (omega arith))
          | inr blocks ↦ union-blocking (picked k) (sets k) (before_apart k (omega arith)) blocks (each k (omega arith))
        ]))
        | inr p ↦ elim (so_far k (omega arith)) [
          | inl out ↦ inl (λ i z. elim (last_or_below z) [ inl e ↦ ap pick e ∙ p | inr b ↦ out i b ])
          | inr blocks ↦ inr (subst (Blocking d) (sym (passed_over k p)) blocks)
        ]
      ]

      pub picked-blocking : (i : ℕ) → i < n → pick i ≡ true → Blocking d (picked n)
      picked-blocking i l p = elim (so_far n (omega arith)) [ inl out ↦ clash p (out i l) | inr blocks ↦ blocks ]

    pub page_blocking : 0 < n → Blocking d (union_of n sets)
    page_blocking l = picked-blocking (λ i. true) 0 l refl

    -- Each grouping joins at least one set.
    some_name : (g : Grouping) → (i : ℕ) × (names g i ≡ true)
    some_name (one k) = (k, eq-eqb k k refl)
    some_name (join g h) = let (i, p) = some_name g in (i, or_left (names h i) p)

    pub grouping_blocking : (g : Grouping) → ((i : ℕ) → names g i ≡ true → i < n) → Blocking d (joined sets g)
    grouping_blocking g of-page =
        let (i, p) = some_name g in
        let same : picked (names g) n ≡ joined sets g =
        fun_ext (λ v. bool_ext (picked (names g) n v) (joined sets g v)
        (λ q.
        let (k, below, both) = any_elim n (λ k. names g k && sets k v) q in
        in-joined sets g k v (and_left (names g k) (sets k v) both) (and_right (names g k) (sets k v) both))
        (λ q.
        let (k, named, in-it) = joined_in sets g v q in
        any_intro n (λ k. names g k && sets k v) k (of-page k named) (and_intro named in-it))) in
        subst (Blocking d) same (picked-blocking (names g) i (of-page i p) p)
