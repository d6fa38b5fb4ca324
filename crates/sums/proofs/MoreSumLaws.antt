-- Further laws of sums over a set S, that is of sum n (λ i. on (S i) (f i)).
--     on-le-on        on b x is at most on b y, if x is at most y where b is true
--     on-sum          on b of a sum is the sum of on b
--     sum-on_mono     a function at most another on S has a sum over S at most the other's
--     sum-on-gap      and by d smaller, if it is by d smaller at one index of S
--     sum-on_cong     functions equal on S have the same sum over S
--     sum-on-add      the sum of f i + g i over S
--     sum-on-mul      the sum of c * f i over S
--     sum-on-const    the sum of a constant over S
--     sum-on-term     a term of S is at most the sum over S
--     sum-exchange    two functions with the same sum, f at most g outside S: over S it is the other way round
--     sum-gather      each index i of S put at a place p i: what is put at the places of T, place by place, or index by index
--     sum-gather_all  and what is put at all places
use Prim.Native.Nat.{ℕ, ◌+◌, ◌*◌, ◌≤◌, ◌<◌}
use mathlib.Core.Bool.{Bool, true, false, not, ◌&&◌}
use mathlib.Core.Path.{◌≡◌, refl, sym, ◌∙◌}
use mathlib.Core.Logic.{inl, inr}
use lib.Dec.{eqb}
use native.Mathlib.Omega.{arith}
use borrow.Author.Tests.{eq-eqb, ne_eqb}
use Rattle.bools.proofs.BoolLaws.{split, not-true}
use Rattle.sums.specs.Sum.{on, sum, count}
use Rattle.sums.proofs.SumLaws.{on-add, sum_cong, sum-le, sum-gap, sum-add, sum-mul, sum-zero, sum-swap, sum-term, sum-single, sum-split-on}
use Rattle.sums.proofs.CountLaws.{sum-on-at_most, sum-on-at_least}

pub on-le-on : (b : Bool) (x y : ℕ) → (b ≡ true → x ≤ y) → on b x ≤ on b y
on-le-on true x y h = h refl
on-le-on false x y h = omega arith

pub on-sum : (b : Bool) (n : ℕ) (f : ℕ → ℕ) → on b (sum n f) ≡ sum n (λ i. on b (f i))
on-sum true n f = refl
on-sum false n f = sym (sum-zero n (λ i. 0) (λ i h. refl))

-- ── sums over a set ──

on_cong : (b : Bool) (x y : ℕ) → (b ≡ true → x ≡ y) → on b x ≡ on b y
on_cong true x y h = h refl
on_cong false x y h = refl

on-mul : (b : Bool) (c x : ℕ) → on b (c * x) ≡ c * on b x
on-mul true c x = refl
on-mul false c x = omega arith

module _ (n : ℕ) (S : ℕ → Bool) where
  pub sum-on_mono : (f g : ℕ → ℕ) → ((i : ℕ) → i < n → S i ≡ true → f i ≤ g i) → sum n (λ i. on (S i) (f i)) ≤ sum n (λ i. on (S i) (g i))
  sum-on_mono f g h = sum-le n (λ i. on (S i) (f i)) (λ i. on (S i) (g i)) (λ i l. on-le-on (S i) (f i) (g i) (h i l))

  pub sum-on-gap : (f g : ℕ → ℕ) (k d : ℕ) → k < n → S k ≡ true → ((i : ℕ) → i < n → S i ≡ true → f i ≤ g i) → f k + d ≤ g k
      → sum n (λ i. on (S i) (f i)) + d ≤ sum n (λ i. on (S i) (g i))
  sum-on-gap f g k d l p h gap = sum-gap n (λ i. on (S i) (f i)) (λ i. on (S i) (g i)) k d l (λ i j. on-le-on (S i) (f i) (g i) (h i j)) (rw p gap)

  pub sum-on_cong : (f g : ℕ → ℕ) → ((i : ℕ) → i < n → S i ≡ true → f i ≡ g i) → sum n (λ i. on (S i) (f i)) ≡ sum n (λ i. on (S i) (g i))
  sum-on_cong f g h = sum_cong n (λ i. on (S i) (f i)) (λ i. on (S i) (g i)) (λ i l. on_cong (S i) (f i) (g i) (h i l))

  pub sum-on-add : (f g : ℕ → ℕ) → sum n (λ i. on (S i) (f i + g i)) ≡ sum n (λ i. on (S i) (f i)) + sum n (λ i. on (S i) (g i))
  sum-on-add f g = sum_cong n (λ i. on (S i) (f i + g i)) (λ i. on (S i) (f i) + on (S i) (g i)) (λ i l. on-add (S i) (f i) (g i))
      ∙ sum-add n (λ i. on (S i) (f i)) (λ i. on (S i) (g i))

  pub sum-on-mul : (c : ℕ) (f : ℕ → ℕ) → sum n (λ i. on (S i) (c * f i)) ≡ c * sum n (λ i. on (S i) (f i))
  sum-on-mul c f = sum_cong n (λ i. on (S i) (c * f i)) (λ i. c * on (S i) (f i)) (λ i l. on-mul (S i) c (f i))
      ∙ sum-mul n c (λ i. on (S i) (f i))

  pub sum-on-const : (c : ℕ) → sum n (λ i. on (S i) c) ≡ c * count n S
  sum-on-const c = omega (arith, sum-on-at_most n S (λ i. c) c (λ i l p. omega arith), sum-on-at_least n S (λ i. c) c (λ i l p. omega arith))

  pub sum-on-term : (f : ℕ → ℕ) (i : ℕ) → i < n → S i ≡ true → f i ≤ sum n (λ j. on (S j) (f j))
  sum-on-term f i l p = let here : on (S i) (f i) ≡ f i = rw p in omega (arith, sum-term n (λ j. on (S j) (f j)) i l)

  -- The complement of S holds no more of f than of g, and all of f and g are equal.
  pub sum-exchange : (f g : ℕ → ℕ) → ((i : ℕ) → i < n → S i ≡ false → f i ≤ g i) → sum n f ≡ sum n g
      → sum n (λ i. on (S i) (g i)) ≤ sum n (λ i. on (S i) (f i))
  sum-exchange f g h e = omega (
    arith,
    sum-split-on n S f,
    sum-split-on n S g,
    sum-le n (λ i. on (not (S i)) (f i)) (λ i. on (not (S i)) (g i)) (λ i l. on-le-on (not (S i)) (f i) (g i) (λ p. h i l (not-true (S i) p))),
  )

-- ── gathering ──

module _ (m n : ℕ) (S : ℕ → Bool) (p f : ℕ → ℕ) (below : (i : ℕ) → i < n → S i ≡ true → p i < m) where
  -- Index i of S stands in the double sum once, at the place p i.
  at_one_place : (T : ℕ → Bool) (i : ℕ) → i < n → sum m (λ v. on (T v) (on (S i && eqb (p i) v) (f i))) ≡ on (S i && T (p i)) (f i)
  at_one_place T i l = elim (split (S i)) [
    | inl s ↦ sum-single m term (p i) (below i l s) (λ v h d. elsewhere v (ne_eqb (p i) v (λ e. d (sym e)))) ∙ here s
    | inr s ↦ sum-zero m term (λ v h. outside v s) ∙ sym (cc)
  ]
    where
      term : ℕ → ℕ
      term v = on (T v) (on (S i && eqb (p i) v) (f i))

      zero-on : (b : Bool) → on b 0 ≡ 0
      zero-on true = refl
      zero-on false = refl

      elsewhere : (v : ℕ) → eqb (p i) v ≡ false → term v ≡ 0
      elsewhere v q = elim (split (S i)) [ inl s ↦ cc (zero-on (T v)) | inr s ↦ cc (zero-on (T v)) ]

      outside : (v : ℕ) → S i ≡ false → term v ≡ 0
      outside v s = cc (zero-on (T v))

      here : S i ≡ true → term (p i) ≡ on (S i && T (p i)) (f i)
      here s = cc (eq-eqb (p i) (p i) refl)

  pub sum-gather : (T : ℕ → Bool) → sum m (λ v. on (T v) (sum n (λ i. on (S i && eqb (p i) v) (f i)))) ≡ sum n (λ i. on (S i && T (p i)) (f i))
  sum-gather T = sum_cong m (λ v. on (T v) (sum n (λ i. on (S i && eqb (p i) v) (f i)))) (λ v. sum n (λ i. on (T v) (on (S i && eqb (p i) v) (f i))))
      (λ v h. on-sum (T v) n (λ i. on (S i && eqb (p i) v) (f i)))
      ∙ sum-swap m n (λ v i. on (T v) (on (S i && eqb (p i) v) (f i)))
      ∙ sum_cong n (λ i. sum m (λ v. on (T v) (on (S i && eqb (p i) v) (f i)))) (λ i. on (S i && T (p i)) (f i)) (at_one_place T)

  pub sum-gather_all : sum m (λ v. sum n (λ i. on (S i && eqb (p i) v) (f i))) ≡ sum n (λ i. on (S i) (f i))
  sum-gather_all = sum-gather (λ v. true) ∙ sum_cong n (λ i. on (S i && true) (f i)) (λ i. on (S i) (f i)) (λ i l. and-true (S i) (f i))
    where
      and-true : (b : Bool) (x : ℕ) → on (b && true) x ≡ on b x
      and-true true x = refl
      and-true false x = refl
