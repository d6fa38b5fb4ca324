-- Laws of rocks given to benches by a function `to`, be it the head, the tail or a placement.
--     given_intro                 a rock of S is given to the bench that `to` names
--     given-rock, given-bench     what is given to v is a rock of S, and `to` names v
--     gathered-add                what v gathers of f + g
--     gathered_mono               of a smaller function v gathers no more
--     gathered-term               a rock given to v counts in what v gathers
--     gathered-at_most            of a function at most c, v gathers at most c for each rock
--     gathered-gap                and less by what one rock has less than c
--     number-pos, number-none     v is given a rock; v is given none
--     gathered_none               where v is given no rock, it gathers nothing
--     number-one                  where no two rocks of S are given to one bench, v is given at most one
--     gathered-over, number-over  double counting: what the benches of A gather is the sum over the rocks given to A
--     gathered-all, number-all    and what all benches gather is the sum over all rocks
use Prim.Native.Nat.{ℕ, ◌+◌, ◌-◌, ◌*◌, ◌≤◌, ◌<◌}
use mathlib.Core.Bool.{Bool, true, false, ◌&&◌}
use mathlib.Core.Path.{◌≡◌, refl, sym, ◌∙◌}
use mathlib.Core.Logic.{inl, inr, ◌≢◌}
use lib.Dec.{eqb}
use native.Mathlib.Omega.{arith}
use borrow.Author.Tests.{eq-eqb, eqb-true}
use Rattle.bools.proofs.BoolLaws.{and_intro, and_left, and_right, implies-false}
use Rattle.bools.proofs.OrderLaws.{lt-or-le}
use Rattle.sums.specs.Sum.{on, sum, count}
use Rattle.sums.proofs.SumLaws.{sum-zero}
use Rattle.sums.proofs.CountLaws.{count-pos, count_none, count-zero, count-two_elim, sum-on-at_most}
use Rattle.sums.proofs.MoreSumLaws.{sum-on_mono, sum-on-gap, sum-on-add, sum-on-const, sum-on-term, sum-gather, sum-gather_all}
use Rattle.argument.specs.Orientation.{given, number, gathered}

module _ (S : ℕ → Bool) (to : ℕ → ℕ) (v : ℕ) where
  pub given_intro : (e : ℕ) → S e ≡ true → to e ≡ v → given S to v e ≡ true
  given_intro e p q = and_intro p (eq-eqb (to e) v q)

  pub given-rock : (e : ℕ) → given S to v e ≡ true → S e ≡ true
  given-rock e p = and_left (S e) (eqb (to e) v) p

  pub given-bench : (e : ℕ) → given S to v e ≡ true → to e ≡ v
  given-bench e p = eqb-true (to e) v (and_right (S e) (eqb (to e) v) p)

-- ── one bench ──

module _ (n : ℕ) (S : ℕ → Bool) (to : ℕ → ℕ) (v : ℕ) where
  pub gathered-add : (f g : ℕ → ℕ) → gathered n S to (λ e. f e + g e) v ≡ gathered n S to f v + gathered n S to g v
  gathered-add f g = sum-on-add n (given S to v) f g

  pub gathered_mono : (f g : ℕ → ℕ) → ((e : ℕ) → e < n → S e ≡ true → to e ≡ v → f e ≤ g e) → gathered n S to f v ≤ gathered n S to g v
  gathered_mono f g h = sum-on_mono n (given S to v) f g (λ e l p. h e l (given-rock S to v e p) (given-bench S to v e p))

  pub gathered-term : (f : ℕ → ℕ) (e : ℕ) → e < n → S e ≡ true → to e ≡ v → f e ≤ gathered n S to f v
  gathered-term f e l p q = sum-on-term n (given S to v) f e l (given_intro S to v e p q)

  pub gathered-at_most : (f : ℕ → ℕ) (c : ℕ) → ((e : ℕ) → e < n → S e ≡ true → to e ≡ v → f e ≤ c) → gathered n S to f v ≤ c * number n S to v
  gathered-at_most f c h = sum-on-at_most n (given S to v) f c (λ e l p. h e l (given-rock S to v e p) (given-bench S to v e p))

  pub gathered-gap : (f : ℕ → ℕ) (c : ℕ) → ((e : ℕ) → e < n → S e ≡ true → to e ≡ v → f e ≤ c)
      → (e : ℕ) → e < n → S e ≡ true → to e ≡ v → gathered n S to f v + c ≤ c * number n S to v + f e
  gathered-gap f c h e l p q = let small : f e ≤ c = h e l p q in omega (
    arith,
    sum-on-const n (given S to v) c,
    sum-on-gap n (given S to v) f (λ i. c) e (c - f e) l (given_intro S to v e p q)
        (λ i j r. h i j (given-rock S to v i r) (given-bench S to v i r)) (omega arith),
  )

  pub number-pos : (e : ℕ) → e < n → S e ≡ true → to e ≡ v → 0 < number n S to v
  number-pos e l p q = count-pos n (given S to v) e l (given_intro S to v e p q)

  pub number-none : ((e : ℕ) → e < n → S e ≡ true → to e ≢ v) → number n S to v ≡ 0
  number-none h = count_none n (given S to v)
      (λ e l. implies-false (given S to v e) {b = false} (λ p. absurd (h e l (given-rock S to v e p) (given-bench S to v e p))) refl)

  pub gathered_none : (f : ℕ → ℕ) → number n S to v ≡ 0 → gathered n S to f v ≡ 0
  gathered_none f none = sum-zero n (λ e. on (given S to v e) (f e)) (λ e l. rw (count-zero n (given S to v) none e l))

  pub number-one : ((e f : ℕ) → e < n → f < n → S e ≡ true → S f ≡ true → to e ≡ to f → e ≡ f) → number n S to v ≤ 1
  number-one apart = elim (lt-or-le 1 (number n S to v)) [
    | inl two ↦ let (e, f, less, l, p, q) = count-two_elim n (given S to v) two in
        let same : to e ≡ to f = given-bench S to v e p ∙ sym (given-bench S to v f q) in
        absurd (omega (arith, apart e f (omega arith) l (given-rock S to v e p) (given-rock S to v f q) same))
    | inr one ↦ one
  ]

-- ── double counting ──

-- Each rock of S is given to one bench below m; so the sum over benches, of what each gathers, has each rock once.
module _ (m n : ℕ) (S : ℕ → Bool) (to : ℕ → ℕ) (below : (e : ℕ) → e < n → S e ≡ true → to e < m) where
  pub gathered-over : (A : ℕ → Bool) (f : ℕ → ℕ) → sum m (λ v. on (A v) (gathered n S to f v)) ≡ sum n (λ e. on (S e && A (to e)) (f e))
  gathered-over A f = sum-gather m n S to f below A

  pub gathered-all : (f : ℕ → ℕ) → sum m (gathered n S to f) ≡ sum n (λ e. on (S e) (f e))
  gathered-all f = sum-gather_all m n S to f below

  pub number-over : (A : ℕ → Bool) → sum m (λ v. on (A v) (number n S to v)) ≡ count n (λ e. S e && A (to e))
  number-over A = gathered-over A (λ e. 1)

  pub number-all : sum m (number n S to) ≡ count n S
  number-all = gathered-all (λ e. 1)
