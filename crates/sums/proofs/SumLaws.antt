-- Laws of finite sums.
--     on-le, on_mono, on-add, on_and, on-split    of on b x, which is x where b is true and 0 where it is false
--     sum_cong        functions equal below n have the same sum
--     sum-le          a function at most another below n has a sum at most the other's
--     sum-gap         and by d smaller, if it is by d smaller at one index
--     sum_lt          and smaller, if it is smaller at one index
--     sum-tight       two such functions with the same sum are equal below n
--     sum-add         the sum of f i + g i
--     sum-sub         the sum of g i - f i, where f is at most g
--     sum-mul, sum-mul_right      the sum of c * f i, and of f i * c
--     sum-const       the sum of a constant
--     sum_bound       the sum is at most n * c, if every term is at most c
--     sum-zero, sum-zero_elim     the sum is 0: from all terms 0, and back
--     sum-swap        a double sum in the other order
--     sum-front       the first term apart
--     sum-split       the sum below m + n in two parts
--     sum-prefix      the sum grows with n
--     sum-term        a term is at most the sum
--     sum-pos, sum-pos_elim       the sum is not 0: from a term that is not 0, and back to one
--     sum-update      two functions that differ at one index only
--     sum-single      all terms but one are 0
--     sum-at          the sum of the terms at index k
--     sum-on-le       the sum over a set is at most the whole sum
--     sum-split-on    the sum over a set and the sum over its complement
--     sum-on-subset   the sum over a subset is at most the sum over the set
--     sum-on-union    the sum over two disjoint sets
--     sum-fibers      the terms gathered by the value of a function into the numbers below n
use Prim.Native.Nat.{ℕ, zero, suc, ◌+◌, ◌-◌, ◌*◌, ◌≤◌, ◌<◌}
use mathlib.Core.Bool.{Bool, true, false, not, ◌&&◌, ◌||◌}
use mathlib.Core.Path.{◌≡◌, refl, sym, ◌∙◌, ap₂}
use mathlib.Core.Logic.{inl, inr, ◌≢◌}
use lib.Dec.{eqb}
use native.Mathlib.Nat.{add-zero, add-suc, le_dest}
use native.Mathlib.Omega.{arith}
use borrow.Author.Tests.{eq-eqb, ne_eqb}
use Rattle.bools.proofs.OrderLaws.{lt-or-le, last_or_below}
use Rattle.sums.specs.Sum.{on, sum}

-- ── on ──

pub on-le : (b : Bool) (x : ℕ) → on b x ≤ x
on-le true x = omega arith
on-le false x = omega arith

pub on_mono : (a b : Bool) {x y : ℕ} → (a ≡ true → b ≡ true) → x ≤ y → on a x ≤ on b y
on_mono true b h l = rw (h refl) l
on_mono false b h l = omega arith

pub on-add : (b : Bool) (x y : ℕ) → on b (x + y) ≡ on b x + on b y
on-add true x y = refl
on-add false x y = refl

pub on_and : (a b : Bool) (x : ℕ) → on (a && b) x ≡ on a (on b x)
on_and true b x = refl
on_and false b x = refl

pub on-split : (b : Bool) (x : ℕ) → on b x + on (not b) x ≡ x
on-split true x = omega arith
on-split false x = omega arith

-- ── comparing two sums ──

pub sum_cong : (n : ℕ) (f g : ℕ → ℕ) → ((i : ℕ) → i < n → f i ≡ g i) → sum n f ≡ sum n g
sum_cong zero f g e = refl
sum_cong (suc n) f g e = ap₂ ◌+◌ (sum_cong n f g (λ i h. e i (omega arith))) (e n (omega arith))

pub sum-le : (n : ℕ) (f g : ℕ → ℕ) → ((i : ℕ) → i < n → f i ≤ g i) → sum n f ≤ sum n g
sum-le zero f g h = omega arith
sum-le (suc n) f g h = omega (arith, sum-le n f g (λ i l. h i (omega arith)), h n (omega arith))

pub sum-gap : (n : ℕ) (f g : ℕ → ℕ) (k d : ℕ) → k < n → ((i : ℕ) → i < n → f i ≤ g i) → f k + d ≤ g k → sum n f + d ≤ sum n g
sum-gap zero f g k d l h gap = absurd (omega arith)
sum-gap (suc n) f g k d l h gap = elim (last_or_below l) [
  | inl e ↦ let gap-n : f n + d ≤ g n = rw e at gap in omega (arith, sum-le n f g (λ i j. h i (omega arith)))
  | inr j ↦ omega (arith, sum-gap n f g k d j (λ i t. h i (omega arith)) gap, h n (omega arith))
]

pub sum_lt : (n : ℕ) (f g : ℕ → ℕ) (k : ℕ) → k < n → ((i : ℕ) → i < n → f i ≤ g i) → f k < g k → sum n f < sum n g
sum_lt n f g k l h less = omega (arith, sum-gap n f g k 1 l h (omega arith))

pub sum-tight : (n : ℕ) (f g : ℕ → ℕ) → ((i : ℕ) → i < n → f i ≤ g i) → sum n f ≡ sum n g → (i : ℕ) → i < n → f i ≡ g i
sum-tight n f g h e i l = elim (lt-or-le (f i) (g i)) [
  | inl less ↦ absurd (omega (arith, sum_lt n f g i l h less))
  | inr more ↦ omega (arith, h i l)
]

-- ── algebra ──

pub sum-add : (n : ℕ) (f g : ℕ → ℕ) → sum n (λ i. f i + g i) ≡ sum n f + sum n g
sum-add zero f g = refl
sum-add (suc n) f g = omega (arith, sum-add n f g)

pub sum-sub : (n : ℕ) (f g : ℕ → ℕ) → ((i : ℕ) → i < n → f i ≤ g i) → sum n (λ i. g i - f i) ≡ sum n g - sum n f
sum-sub zero f g h = refl
sum-sub (suc n) f g h = omega (arith, sum-sub n f g (λ i l. h i (omega arith)), h n (omega arith), sum-le n f g (λ i l. h i (omega arith)))

pub sum-mul : (n c : ℕ) (f : ℕ → ℕ) → sum n (λ i. c * f i) ≡ c * sum n f
sum-mul zero c f = omega arith
sum-mul (suc n) c f = omega (arith, sum-mul n c f)

pub sum-mul_right : (n : ℕ) (f : ℕ → ℕ) (c : ℕ) → sum n (λ i. f i * c) ≡ sum n f * c
sum-mul_right zero f c = omega arith
sum-mul_right (suc n) f c = omega (arith, sum-mul_right n f c)

pub sum-const : (n c : ℕ) → sum n (λ i. c) ≡ n * c
sum-const zero c = omega arith
sum-const (suc n) c = omega (arith, sum-const n c)

pub sum_bound : (n c : ℕ) (f : ℕ → ℕ) → ((i : ℕ) → i < n → f i ≤ c) → sum n f ≤ n * c
sum_bound n c f h = omega (arith, sum-le n f (λ i. c) h, sum-const n c)

pub sum-zero : (n : ℕ) (f : ℕ → ℕ) → ((i : ℕ) → i < n → f i ≡ 0) → sum n f ≡ 0
sum-zero zero f h = refl
sum-zero (suc n) f h = omega (arith, sum-zero n f (λ i l. h i (omega arith)), h n (omega arith))

pub sum-swap : (m n : ℕ) (f : ℕ → ℕ → ℕ) → sum m (λ i. sum n (λ j. f i j)) ≡ sum n (λ j. sum m (λ i. f i j))
sum-swap zero n f = sym (sum-zero n (λ j. 0) (λ j h. refl))
sum-swap (suc m) n f = omega (arith, sum-swap m n f, sum-add n (λ j. sum m (λ i. f i j)) (λ j. f m j))

-- ── parts ──

pub sum-front : (n : ℕ) (f : ℕ → ℕ) → sum (suc n) f ≡ f 0 + sum n (λ i. f (suc i))
sum-front zero f = omega arith
sum-front (suc n) f = omega (arith, sum-front n f)

pub sum-split : (m n : ℕ) (f : ℕ → ℕ) → sum (m + n) f ≡ sum m f + sum n (λ i. f (m + i))
sum-split m zero f = rw (add-zero m) (omega arith)
sum-split m (suc n) f = rw add-suc (omega (arith, sum-split m n f))

pub sum-prefix : (m n : ℕ) (f : ℕ → ℕ) → m ≤ n → sum m f ≤ sum n f
sum-prefix m n f h = let d = le_dest h in rw (← d.1) (omega (arith, sum-split m d.0 f))

pub sum-term : (n : ℕ) (f : ℕ → ℕ) (i : ℕ) → i < n → f i ≤ sum n f
sum-term n f i h = omega (arith, sum-prefix (suc i) n f h)

pub sum-zero_elim : (n : ℕ) (f : ℕ → ℕ) → sum n f ≡ 0 → (i : ℕ) → i < n → f i ≡ 0
sum-zero_elim n f e i h = omega (arith, sum-term n f i h)

pub sum-pos : (n : ℕ) (f : ℕ → ℕ) (i : ℕ) → i < n → 0 < f i → 0 < sum n f
sum-pos n f i h p = omega (arith, sum-term n f i h)

pub sum-pos_elim : (n : ℕ) (f : ℕ → ℕ) → 0 < sum n f → (i : ℕ) × (i < n) × (0 < f i)
sum-pos_elim zero f p = absurd (omega arith)
sum-pos_elim (suc n) f p = elim (lt-or-le 0 (f n)) [
  | inl q ↦ (n, omega arith, q)
  | inr q ↦ let r = sum-pos_elim n f (omega arith) in (r.0, omega arith, r.2)
]

-- ── one index ──

pub sum-update : (n : ℕ) (f g : ℕ → ℕ) (k : ℕ) → k < n → ((i : ℕ) → i < n → i ≢ k → f i ≡ g i) → sum n f + g k ≡ sum n g + f k
sum-update zero f g k l h = absurd (omega arith)
sum-update (suc n) f g k l h = elim (last_or_below l) [
  | inl e ↦ rw e (omega (arith, sum_cong n f g (λ i j. h i (omega arith) (omega arith))))
  | inr j ↦ omega (arith, sum-update n f g k j (λ i t. h i (omega arith)), h n (omega arith) (omega arith))
]

pub sum-single : (n : ℕ) (f : ℕ → ℕ) (k : ℕ) → k < n → ((i : ℕ) → i < n → i ≢ k → f i ≡ 0) → sum n f ≡ f k
sum-single n f k l h = omega (arith, sum-update n f (λ i. 0) k l h, sum-zero n (λ i. 0) (λ i j. refl))

pub sum-at : (n : ℕ) (f : ℕ → ℕ) (k : ℕ) → k < n → sum n (λ i. on (eqb i k) (f i)) ≡ f k
sum-at n f k l = sum-single n (λ i. on (eqb i k) (f i)) k l (λ i h d. rw (ne_eqb i k d)) ∙ rw (eq-eqb k k refl)

-- ── sums over sets ──

pub sum-on-le : (n : ℕ) (S : ℕ → Bool) (f : ℕ → ℕ) → sum n (λ i. on (S i) (f i)) ≤ sum n f
sum-on-le n S f = sum-le n (λ i. on (S i) (f i)) f (λ i h. on-le (S i) (f i))

pub sum-split-on : (n : ℕ) (S : ℕ → Bool) (f : ℕ → ℕ) → sum n (λ i. on (S i) (f i)) + sum n (λ i. on (not (S i)) (f i)) ≡ sum n f
sum-split-on n S f = sym (sum-add n (λ i. on (S i) (f i)) (λ i. on (not (S i)) (f i)))
    ∙ sum_cong n (λ i. on (S i) (f i) + on (not (S i)) (f i)) f (λ i h. on-split (S i) (f i))

pub sum-on-subset : (n : ℕ) (S T : ℕ → Bool) (f : ℕ → ℕ) → ((i : ℕ) → i < n → S i ≡ true → T i ≡ true)
    → sum n (λ i. on (S i) (f i)) ≤ sum n (λ i. on (T i) (f i))
sum-on-subset n S T f h = sum-le n (λ i. on (S i) (f i)) (λ i. on (T i) (f i)) (λ i l. on_mono (S i) (T i) (h i l) (omega arith))

on-union : (a b : Bool) (x : ℕ) → (a ≡ true → b ≡ true → ⊥) → on (a || b) x ≡ on a x + on b x
on-union true true x h = absurd (h refl refl)
on-union true false x h = omega arith
on-union false b x h = omega arith

pub sum-on-union : (n : ℕ) (S T : ℕ → Bool) (f : ℕ → ℕ) → ((i : ℕ) → i < n → S i ≡ true → T i ≡ true → ⊥)
    → sum n (λ i. on (S i || T i) (f i)) ≡ sum n (λ i. on (S i) (f i)) + sum n (λ i. on (T i) (f i))
sum-on-union n S T f h = sum_cong n (λ i. on (S i || T i) (f i)) (λ i. on (S i) (f i) + on (T i) (f i)) (λ i l. on-union (S i) (T i) (f i) (h i l))
    ∙ sum-add n (λ i. on (S i) (f i)) (λ i. on (T i) (f i))

-- ── gathering ──

pub sum-fibers : (m n : ℕ) (f : ℕ → ℕ) (g : ℕ → ℕ) → ((i : ℕ) → i < m → g i < n)
    → sum n (λ j. sum m (λ i. on (eqb (g i) j) (f i))) ≡ sum m f
sum-fibers m n f g h = sum-swap n m (λ j i. on (eqb (g i) j) (f i))
    ∙ sum_cong m (λ i. sum n (λ j. on (eqb (g i) j) (f i))) f (λ i l.
    sum-single n (λ j. on (eqb (g i) j) (f i)) (g i) (h i l) (λ j t d. rw (ne_eqb (g i) j (λ e. d (sym e)))) ∙ rw (eq-eqb (g i) (g i) refl))
