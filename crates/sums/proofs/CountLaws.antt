-- Laws of counting: count n f is how many i below n have f i.
--     count_cong      functions equal below n have the same count
--     count-le        it is at most n
--     count_mono      a subset counts at most as much
--     count-strict    and less, if the set has one index more
--     count-subset-eq a subset with the same count is the set
--     count-union     a union and an intersection together count as the two sets
--     count_add       a union of disjoint sets
--     count-not       a set and its complement count n
--     count-split     the count below m + n in two parts
--     count-prefix    the count grows with n
--     count_none, count-zero      the count is 0: from f false below n, and back
--     count-pos, count-pos_elim   the count is not 0: from an index, and back to one
--     count-two, count-two_elim   the count is at least 2: from two indices, and back to two
--     count-unique    where the count is at most 1, two indices are the same
--     count-all, count-full       the count is n: from f true below n, and back
--     count_at        one index
--     count-remove    a set with one index taken out
--     count-insert    a set with one index put in
--     count-swap      double counting: pairs of a relation, by the first or by the second
--     count-fibers    the indices gathered by the value of a function into the numbers below n
--     sum-on-at_most, sum-on-at_least     the sum over a set of terms at most c, or at least c, against c times the count
--     count-injective a function that maps S below m into T below n, different indices to different ones: S counts at most T
--     pigeonhole      S below m mapped into T below n, and T counts less: two different indices of S have the same image
use Prim.Native.Nat.{ℕ, zero, suc, ◌+◌, ◌*◌, ◌≤◌, ◌<◌}
use mathlib.Core.Bool.{Bool, true, false, not, ◌&&◌, ◌||◌}
use mathlib.Core.Path.{◌≡◌, refl, sym, ◌∙◌}
use mathlib.Core.Logic.{inl, inr, ◌≢◌}
use lib.Dec.{eqb}
use native.Mathlib.Omega.{arith}
use borrow.Author.Tests.{eq-eqb, ne_eqb, eqb-true}
use Rattle.bools.proofs.BoolLaws.{split, clash, and_intro, and_left, and_right, not_intro_true, not_intro_false, bool_ext}
use Rattle.bools.proofs.OrderLaws.{eq-or-ne}
use Rattle.sums.specs.Sum.{on, sum, count}
use Rattle.sums.specs.Search.{any}
use Rattle.sums.proofs.SearchLaws.{any_elim, any_none}
use Rattle.sums.proofs.SumLaws.{on-le, on_mono, sum_cong, sum-le, sum_lt, sum-mul, sum-const, sum-zero, sum-swap, sum-split}
use Rattle.sums.proofs.SumLaws.{sum-prefix, sum-pos, sum-pos_elim, sum-update, sum-at, sum-split-on, sum-on-union, sum-fibers}

on-true : (b : Bool) → 0 < on b 1 → b ≡ true
on-true true h = refl
on-true false h = absurd (omega arith)

on_one : (b : Bool) → on b 1 ≤ 1
on_one b = on-le b 1

-- ── comparing two counts ──

pub count_cong : (n : ℕ) (f g : ℕ → Bool) → ((i : ℕ) → i < n → f i ≡ g i) → count n f ≡ count n g
count_cong n f g e = sum_cong n (λ i. on (f i) 1) (λ i. on (g i) 1) (λ i h. rw (e i h))

pub count-le : (n : ℕ) (f : ℕ → Bool) → count n f ≤ n
count-le zero f = omega arith
count-le (suc n) f = omega (arith, count-le n f, on_one (f n))

pub count_mono : (n : ℕ) (f g : ℕ → Bool) → ((i : ℕ) → i < n → f i ≡ true → g i ≡ true) → count n f ≤ count n g
count_mono n f g h = sum-le n (λ i. on (f i) 1) (λ i. on (g i) 1) (λ i l. on_mono (f i) (g i) (h i l) (omega arith))

pub count-strict : (n : ℕ) (f g : ℕ → Bool) (k : ℕ) → ((i : ℕ) → i < n → f i ≡ true → g i ≡ true)
    → k < n → f k ≡ false → g k ≡ true → count n f < count n g
count-strict n f g k h l p q = sum_lt n (λ i. on (f i) 1) (λ i. on (g i) 1) k l
    (λ i j. on_mono (f i) (g i) (h i j) (omega arith)) (rw (p, q) (omega arith))

pub count-subset-eq : (n : ℕ) (f g : ℕ → Bool) → ((i : ℕ) → i < n → f i ≡ true → g i ≡ true) → count n f ≡ count n g
    → (i : ℕ) → i < n → f i ≡ g i
count-subset-eq n f g h e i l = bool_ext (f i) (g i) (h i l) (λ q. elim (split (f i)) [
  | inl p ↦ p
  | inr p ↦ absurd (omega (arith, count-strict n f g i h l p q))
])

-- ── unions, complements, parts ──

on-union_inter : (a b : Bool) → on (a || b) 1 + on (a && b) 1 ≡ on a 1 + on b 1
on-union_inter true b = refl
on-union_inter false b = omega arith

pub count-union : (n : ℕ) (f g : ℕ → Bool) → count n (λ i. f i || g i) + count n (λ i. f i && g i) ≡ count n f + count n g
count-union zero f g = refl
count-union (suc n) f g = omega (arith, count-union n f g, on-union_inter (f n) (g n))

pub count_add : (n : ℕ) (f g : ℕ → Bool) → ((i : ℕ) → i < n → f i ≡ true → g i ≡ true → ⊥) → count n (λ i. f i || g i) ≡ count n f + count n g
count_add n f g h = sum-on-union n f g (λ i. 1) h

pub count-not : (n : ℕ) (f : ℕ → Bool) → count n f + count n (λ i. not (f i)) ≡ n
count-not n f = omega (arith, sum-split-on n f (λ i. 1), sum-const n 1)

pub count-split : (m n : ℕ) (f : ℕ → Bool) → count (m + n) f ≡ count m f + count n (λ i. f (m + i))
count-split m n f = sum-split m n (λ i. on (f i) 1)

pub count-prefix : (m n : ℕ) (f : ℕ → Bool) → m ≤ n → count m f ≤ count n f
count-prefix m n f h = sum-prefix m n (λ i. on (f i) 1) h

-- ── none, one, two, all ──

pub count_none : (n : ℕ) (f : ℕ → Bool) → ((i : ℕ) → i < n → f i ≡ false) → count n f ≡ 0
count_none n f h = sum-zero n (λ i. on (f i) 1) (λ i l. rw (h i l))

pub count-pos : (n : ℕ) (f : ℕ → Bool) (i : ℕ) → i < n → f i ≡ true → 0 < count n f
count-pos n f i h p = sum-pos n (λ k. on (f k) 1) i h (rw p (omega arith))

pub count-zero : (n : ℕ) (f : ℕ → Bool) → count n f ≡ 0 → (i : ℕ) → i < n → f i ≡ false
count-zero n f e i h = elim (split (f i)) [ inl p ↦ absurd (omega (arith, count-pos n f i h p)) | inr p ↦ p ]

pub count-pos_elim : (n : ℕ) (f : ℕ → Bool) → 0 < count n f → (i : ℕ) × (i < n) × (f i ≡ true)
count-pos_elim n f p = let r = sum-pos_elim n (λ i. on (f i) 1) p in (r.0, r.1, on-true (f r.0) r.2)

pub count-remove : (n : ℕ) (f : ℕ → Bool) (k : ℕ) → k < n → f k ≡ true → count n f ≡ suc (count n (λ i. f i && not (eqb i k)))
count-remove n f k l p = omega (
  arith,
  here,
  there,
  sum-update n (λ i. on (f i) 1) (λ i. on (f i && not (eqb i k)) 1) k l
      (λ i h d. cc (ne_eqb i k d, keep (f i))),
)
  where
    here : on (f k) 1 ≡ 1
    here = rw p

    there : on (f k && not (eqb k k)) 1 ≡ 0
    there = cc (eq-eqb k k refl)

    keep : (b : Bool) → (b && true) ≡ b
    keep true = refl
    keep false = refl

pub count-insert : (n : ℕ) (f : ℕ → Bool) (k : ℕ) → k < n → f k ≡ false → count n (λ i. f i || eqb i k) ≡ suc (count n f)
count-insert n f k l p = omega (
  arith,
  here,
  there,
  sum-update n (λ i. on (f i) 1) (λ i. on (f i || eqb i k) 1) k l
      (λ i h d. cc (ne_eqb i k d, keep (f i))),
)
  where
    here : on (f k) 1 ≡ 0
    here = rw p

    there : on (f k || eqb k k) 1 ≡ 1
    there = cc (eq-eqb k k refl)

    keep : (b : Bool) → (b || false) ≡ b
    keep true = refl
    keep false = refl

pub count_at : (n : ℕ) (k : ℕ) → k < n → count n (λ i. eqb i k) ≡ 1
count_at n k h = sum-at n (λ i. 1) k h

pub count-two : (n : ℕ) (f : ℕ → Bool) (i j : ℕ) → i < n → j < n → i ≢ j → f i ≡ true → f j ≡ true → 2 ≤ count n f
count-two n f i j hi hj d p q = omega (
  arith,
  count-remove n f i hi p,
  count-pos n (λ k. f k && not (eqb k i)) j hj (and_intro q (not_intro_true (ne_eqb j i (λ e. d (sym e))))),
)

pub count-two_elim : (n : ℕ) (f : ℕ → Bool) → 2 ≤ count n f → (i : ℕ) × (j : ℕ) × (i < j) × (j < n) × (f i ≡ true) × (f j ≡ true)
count-two_elim zero f h = absurd (omega arith)
count-two_elim (suc n) f h = elim (split (f n)) [
  | inl p ↦ let r = count-pos_elim n f (omega (arith, on_one (f n))) in (r.0, n, r.1, omega arith, r.2, p)
  | inr p ↦ let z : on (f n) 1 ≡ 0 = rw p in
      let r = count-two_elim n f (omega arith) in (r.0, r.1, r.2, omega arith, r.4, r.5)
]

pub count-unique : (n : ℕ) (f : ℕ → Bool) → count n f ≤ 1 → (i j : ℕ) → i < n → j < n → f i ≡ true → f j ≡ true → i ≡ j
count-unique n f h i j hi hj p q = elim (eq-or-ne i j) [ inl e ↦ e | inr d ↦ absurd (omega (arith, count-two n f i j hi hj d p q)) ]

pub count-all : (n : ℕ) (f : ℕ → Bool) → ((i : ℕ) → i < n → f i ≡ true) → count n f ≡ n
count-all n f h = omega (arith, count-not n f, count_none n (λ i. not (f i)) (λ i l. not_intro_false (h i l)))

pub count-full : (n : ℕ) (f : ℕ → Bool) → count n f ≡ n → (i : ℕ) → i < n → f i ≡ true
count-full n f e i h = elim (split (f i)) [
  | inl p ↦ p
  | inr p ↦ absurd (omega (arith, count-not n f, count-pos n (λ k. not (f k)) i h (not_intro_true p)))
]

-- ── double counting ──

pub count-swap : (m n : ℕ) (R : ℕ → ℕ → Bool) → sum m (λ i. count n (λ j. R i j)) ≡ sum n (λ j. count m (λ i. R i j))
count-swap m n R = sum-swap m n (λ i j. on (R i j) 1)

on-fiber : (a b : Bool) → on (a && b) 1 ≡ on b (on a 1)
on-fiber true true = refl
on-fiber true false = refl
on-fiber false true = refl
on-fiber false false = refl

pub count-fibers : (m n : ℕ) (S : ℕ → Bool) (g : ℕ → ℕ) → ((i : ℕ) → i < m → g i < n) → sum n (λ j. count m (λ i. S i && eqb (g i) j)) ≡ count m S
count-fibers m n S g h = sum_cong n (λ j. count m (λ i. S i && eqb (g i) j)) (λ j. sum m (λ i. on (eqb (g i) j) (on (S i) 1)))
    (λ j l. sum_cong m (λ i. on (S i && eqb (g i) j) 1) (λ i. on (eqb (g i) j) (on (S i) 1)) (λ i k. on-fiber (S i) (eqb (g i) j)))
    ∙ sum-fibers m n (λ i. on (S i) 1) g h

on-le-scale : (b : Bool) (x c : ℕ) → (b ≡ true → x ≤ c) → on b x ≤ c * on b 1
on-le-scale true x c h = omega (arith, h refl)
on-le-scale false x c h = omega arith

on-ge-scale : (b : Bool) (x c : ℕ) → (b ≡ true → c ≤ x) → c * on b 1 ≤ on b x
on-ge-scale true x c h = omega (arith, h refl)
on-ge-scale false x c h = omega arith

pub sum-on-at_most : (n : ℕ) (S : ℕ → Bool) (f : ℕ → ℕ) (c : ℕ) → ((i : ℕ) → i < n → S i ≡ true → f i ≤ c)
    → sum n (λ i. on (S i) (f i)) ≤ c * count n S
sum-on-at_most n S f c h = omega (
  arith,
  sum-mul n c (λ i. on (S i) 1),
  sum-le n (λ i. on (S i) (f i)) (λ i. c * on (S i) 1) (λ i l. on-le-scale (S i) (f i) c (h i l)),
)

pub sum-on-at_least : (n : ℕ) (S : ℕ → Bool) (f : ℕ → ℕ) (c : ℕ) → ((i : ℕ) → i < n → S i ≡ true → c ≤ f i)
    → c * count n S ≤ sum n (λ i. on (S i) (f i))
sum-on-at_least n S f c h = omega (
  arith,
  sum-mul n c (λ i. on (S i) 1),
  sum-le n (λ i. c * on (S i) 1) (λ i. on (S i) (f i)) (λ i l. on-ge-scale (S i) (f i) c (h i l)),
)

-- ── pigeonhole ──

-- By induction on m: where S m is true, take f m out of T; what is left of T still takes the images of the smaller indices, none of which is f m.
pub count-injective : (m n : ℕ) (S T : ℕ → Bool) (f : ℕ → ℕ)
    → ((i : ℕ) → i < m → S i ≡ true → f i < n)
    → ((i : ℕ) → i < m → S i ≡ true → T (f i) ≡ true)
    → ((i j : ℕ) → i < j → j < m → S i ≡ true → S j ≡ true → f i ≢ f j)
    → count m S ≤ count n T
count-injective zero n S T f below into apart = omega arith
count-injective (suc m) n S T f below into apart = elim (split (S m)) [
  | inl p ↦ omega (
    arith,
    on_one (S m),
    count-remove n T (f m) (below m (omega arith) p) (into m (omega arith) p),
    count-injective m n S (λ k. T k && not (eqb k (f m))) f (λ i h. below i (omega arith))
        (λ i h q. and_intro (into i (omega arith) q) (not_intro_true (ne_eqb (f i) (f m) (apart i m h (omega arith) q p))))
        (λ i j l h. apart i j l (omega arith)),
  )
  | inr p ↦ let z : on (S m) 1 ≡ 0 = rw p in
      omega (arith, count-injective m n S T f (λ i h. below i (omega arith)) (λ i h. into i (omega arith)) (λ i j l h. apart i j l (omega arith)))
]

pub pigeonhole : (m n : ℕ) (S T : ℕ → Bool) (f : ℕ → ℕ)
    → ((i : ℕ) → i < m → S i ≡ true → f i < n)
    → ((i : ℕ) → i < m → S i ≡ true → T (f i) ≡ true)
    → count n T < count m S
    → (i : ℕ) × (j : ℕ) × (i < j) × (j < m) × (S i ≡ true) × (S j ≡ true) × (f i ≡ f j)
pigeonhole m n S T f below into less = elim (split (any m (λ j. any j (λ i. meet i j)))) [
  | inl p ↦ let (j, hj, q) = any_elim m (λ j. any j (λ i. meet i j)) p in
      let (i, hi, r) = any_elim j (λ i. meet i j) q in
      let both = and_left (S i && S j) (eqb (f i) (f j)) r in
      (i, j, hi, hj, and_left (S i) (S j) both, and_right (S i) (S j) both, eqb-true (f i) (f j) (and_right (S i && S j) (eqb (f i) (f j)) r))
  | inr p ↦ absurd (omega (
    arith,
    count-injective m n S T f below into (λ i j l h a b e.
        clash (and_intro (and_intro a b) (eq-eqb (f i) (f j) e)) (any_none j (λ k. meet k j) (any_none m (λ k. any k (λ t. meet t k)) p j h) i l)),
  ))
]
  where
    meet : ℕ → ℕ → Bool
    meet i j = S i && S j && eqb (f i) (f j)
