-- Laws of the greatest value of an index function, and of where it is taken.
--     largest_bound   f i is at most largest n f, for i below n
--     largest-le      largest n f is at most b, if every f i below n is
--     largest-at      largest n f is some f i, if n is not 0
--     largest_cong    functions equal below n have the same largest
--     largest_mono    a function that is at most another below n has a largest that is at most the other's
--     fullest-is      at fullest n f, if n is not 0, f takes its greatest value and is smaller before; nowhere else
--     fullest_cong    functions equal below n have the same fullest
--     fullest-above, fullest-kept     the fullest of one value more, which is above all before it, or is not
use Prim.Native.Nat.{ℕ, zero, suc, ◌≤◌, ◌<◌, max}
use mathlib.Core.Path.{◌≡◌, refl, sym, ap₂}
use mathlib.Core.Bool.{Bool}
use mathlib.Core.Logic.{inl, inr}
use lib.Dec.{eqb}
use native.Mathlib.Omega.{arith}
use borrow.Author.Tests.{eqb-true, eq-eqb}
use Rattle.bools.proofs.BoolLaws.{tests}
use Rattle.bools.proofs.OrderLaws.{lt-or-le, last_or_below}
use Rattle.sums.specs.Sum.{largest, fullest, Fullest}
use Rattle.sums.specs.Search.{least}
use Rattle.sums.proofs.SearchLaws.{least-found, least-holds, least-before, least_bound, least_cong}

pub largest_bound : (n : ℕ) (f : ℕ → ℕ) (i : ℕ) → i < n → f i ≤ largest n f
largest_bound zero f i h = absurd (omega arith)
largest_bound (suc n) f i h = elim (last_or_below h) [
  | inl e ↦ rw e (omega arith)
  | inr l ↦ omega (arith, largest_bound n f i l)
]

pub largest-le : (n : ℕ) (f : ℕ → ℕ) (b : ℕ) → ((i : ℕ) → i < n → f i ≤ b) → largest n f ≤ b
largest-le zero f b h = omega arith
largest-le (suc n) f b h = omega (arith, largest-le n f b (λ i l. h i (omega arith)), h n (omega arith))

pub largest-at : (n : ℕ) (f : ℕ → ℕ) → 0 < n → (i : ℕ) × (i < n) × (f i ≡ largest n f)
largest-at zero f h = absurd (omega arith)
largest-at (suc zero) f h = (0, omega arith, omega arith)
largest-at (suc (suc n)) f h = elim (lt-or-le (largest (suc n) f) (f (suc n))) [
  | inl l ↦ (suc n, omega arith, omega arith)
  | inr l ↦ let r = largest-at (suc n) f (omega arith) in (r.0, omega arith, omega arith)
]

pub largest_cong : (n : ℕ) (f g : ℕ → ℕ) → ((i : ℕ) → i < n → f i ≡ g i) → largest n f ≡ largest n g
largest_cong zero f g e = refl
largest_cong (suc n) f g e = ap₂ max (largest_cong n f g (λ i h. e i (omega arith))) (e n (omega arith))

pub largest_mono : (n : ℕ) (f g : ℕ → ℕ) → ((i : ℕ) → i < n → f i ≤ g i) → largest n f ≤ largest n g
largest_mono n f g h = largest-le n f (largest n g) (λ i l. omega (arith, h i l, largest_bound n g i l))

-- ── where it is taken ──

fullest-there : (n : ℕ) (f : ℕ → ℕ) → 0 < n → Fullest n f (fullest n f)
unfolding fullest
fullest-there n f some =
    let test : ℕ → Bool = λ i. eqb (f i) (largest n f) in
    let r = largest-at n f some in
    let below : least n test < n = omega (arith, least_bound n test r.0 (eq-eqb _ _ r.2)) in
    let there : f (least n test) ≡ largest n f = eqb-true _ _ (least-holds n test below) in
    record {
      one_of_them = below;
      has_largest = there;
      lower_less = λ k l. let d = least-before n test k l in omega (tests, largest_bound n f k (omega arith), there);
    }

fullest_only : (n : ℕ) (f : ℕ → ℕ) (i : ℕ) → Fullest n f i → i ≡ fullest n f
unfolding fullest
fullest_only n f i F =
    sym (least-found n (λ k. eqb (f k) (largest n f)) i F.one_of_them (eq-eqb _ _ F.has_largest)
    (λ k l. omega (tests, F.lower_less k l, F.has_largest)))

pub fullest-is : (n : ℕ) (f : ℕ → ℕ) → 0 < n
    → Fullest n f (fullest n f) × ((i : ℕ) → Fullest n f i → i ≡ fullest n f)
fullest-is n f some = (fullest-there n f some, fullest_only n f)

pub fullest_cong : (n : ℕ) (f g : ℕ → ℕ) → ((i : ℕ) → i < n → f i ≡ g i) → fullest n f ≡ fullest n g
unfolding fullest
fullest_cong n f g e =
    least_cong n (λ i. eqb (f i) (largest n f)) (λ i. eqb (g i) (largest n g))
    (λ i h. ap₂ eqb (e i h) (largest_cong n f g e))

-- One value more takes its place only if it is above all before it.
pub fullest-above : (n : ℕ) (f : ℕ → ℕ) → largest n f < f n → fullest (suc n) f ≡ n
fullest-above n f above =
    sym ((fullest-is (suc n) f (omega arith)).1 n (record {
      one_of_them = omega arith;
      has_largest = omega arith;
      lower_less = λ k l. omega (arith, largest_bound n f k l);
    }))

pub fullest-kept : (n : ℕ) (f : ℕ → ℕ) → f n ≤ largest n f → fullest (suc n) f ≡ fullest n f
unfolding fullest
fullest-kept zero f small =
    sym ((fullest-is 1 f (omega arith)).1 0 (record {
      one_of_them = omega arith;
      has_largest = omega arith;
      lower_less = λ k l. absurd (omega arith);
    }))
fullest-kept (suc n) f small =
    let F = (fullest-is (suc n) f (omega arith)).0 in
    sym ((fullest-is (suc (suc n)) f (omega arith)).1 (fullest (suc n) f) (record {
      one_of_them = omega (arith, F.one_of_them);
      has_largest = omega (arith, F.has_largest);
      lower_less = F.lower_less;
    }))
