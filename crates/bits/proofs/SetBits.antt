-- Laws of the set bits of a number of n bits, bit 0 the highest.
--     is_set-digit      a bit is set where its binary digit is 1
--     is_set-past       no bit past the last is set
--     is_set-half       all but the last bit of a number of n + 1 bits are the bits of its half
--     is_set-last       the last bit tells whether the number is odd
--     is_set-zero       no bit of 0 is set
--     is_set-bits       the bits of a field are those of the list
--     is_set-injective  numbers below 2 ^ n with the same n bits are equal
--     low-is_set        a bit from bit k on is set where the n - k low binary digits are not all 0
--     any-is_set        a bit of a number below 2 ^ n is set where the number is not 0
--     any-is_set-zero   a number below 2 ^ n with no bit set is 0
--     count-is_set      a number below 2 ^ n has as many bits set as it has binary digits 1
use mathlib.Core.Path.{◌≡◌, refl, sym, ap, ◌∙◌}
use mathlib.Core.Bool.{Bool, true, false, not, ◌&&◌, ◌||◌}
use mathlib.Core.List.{List}
use mathlib.Core.Logic.{inl, inr}
use Prim.Native.Nat.{ℕ, zero, suc, ◌+◌, ◌-◌, ◌*◌, ◌/◌, ◌%◌, ◌^◌, ◌≤◌, ◌<◌}
use native.Mathlib.Nat.{sub-zero, mod-eq_of_lt, mod-one, zero-div, add_comm, div-one}
use native.Mathlib.Omega.{arith}
use lib.Dec.{eqb, leb, ltb, leb-zero}
use lib.Pow.{shr-shr}
use lib.Count.{ones, ones_step}
use borrow.Author.Tests.{ne_eqb, lt-leb, le-leb, lt-ltb, le-ltb}
use Rattle.bools.proofs.BoolLaws.{tests}
use Rattle.bools.proofs.OrderLaws.{lt-or-le}
use Rattle.sums.specs.Sum.{on, sum, count}
use Rattle.sums.specs.Search.{any}
use Rattle.sums.proofs.SumLaws.{sum_cong}
use Rattle.sums.proofs.SearchLaws.{any_cong, any_false}
use Rattle.bits.specs.Bits.{bit, bits, is_set}
use Rattle.bits.proofs.BitsLaws.{mod_pow-suc, bits-digit}

-- ---- one bit

pub is_set-digit : (n m b : ℕ) → b < n → is_set n m b ≡ eqb (m / 2 ^ (n - 1 - b) % 2) 1
unfolding is_set
is_set-digit n m b h = let t : ltb b n ≡ true = lt-ltb b n h in cc

pub is_set-past : (n m b : ℕ) → n ≤ b → is_set n m b ≡ false
unfolding is_set
is_set-past n m b h = let t : ltb b n ≡ false = le-ltb b n h in cc

pub is_set-half : (n m b : ℕ) → b < n → is_set (suc n) m b ≡ is_set n (m / 2) b
is_set-half n m b h =
    let e : suc n - 1 - b ≡ 1 + (n - 1 - b) = omega arith in
    rw (is_set-digit (suc n) m b (omega arith), is_set-digit n (m / 2) b h, e, ← shr-shr m 1 (n - 1 - b))

pub is_set-last : (n m : ℕ) → is_set (suc n) m n ≡ eqb (m % 2) 1
is_set-last n m = let e : suc n - 1 - n ≡ 0 = omega arith in rw (is_set-digit (suc n) m n (omega arith), e, div-one m)

pub is_set-zero : (n b : ℕ) → is_set n 0 b ≡ false
is_set-zero n b = elim (lt-or-le b n) [ inl l ↦ rw (is_set-digit n 0 b l, zero-div (2 ^ (n - 1 - b))) | inr l ↦ is_set-past n 0 b l ]

pub is_set-bits : (s : List ℕ) (at n b : ℕ) → b < n → is_set n (bits s at n) b ≡ eqb (bit s (at + b)) 1
is_set-bits s at n b h = rw (is_set-digit n (bits s at n) b h, bits-digit s at n b h)

-- ---- all bits

-- a digit is told by the test for 1
digit_test : (r q : ℕ) → r < 2 → q < 2 → eqb r 1 ≡ eqb q 1 → r ≡ q
digit_test zero zero h l e = refl
digit_test zero (suc zero) h l e = cc
digit_test (suc zero) zero h l e = cc
digit_test (suc zero) (suc zero) h l e = refl
digit_test zero (suc (suc q)) h l e = omega arith
digit_test (suc zero) (suc (suc q)) h l e = omega arith
digit_test (suc (suc r)) q h l e = omega arith

pub is_set-injective : (n m l : ℕ) → m < 2 ^ n → l < 2 ^ n → ((b : ℕ) → b < n → is_set n m b ≡ is_set n l b) → m ≡ l
is_set-injective zero m l p q e = omega arith
is_set-injective (suc n) m l p q e =
    let high : m / 2 ≡ l / 2 = is_set-injective n (m / 2) (l / 2) (omega arith) (omega arith)
    (λ b h. sym (is_set-half n m b h) ∙ e b (omega arith) ∙ is_set-half n l b h) in
    let last : m % 2 ≡ l % 2 = digit_test (m % 2) (l % 2) (omega arith) (omega arith) (sym (is_set-last n m) ∙ e n (omega arith) ∙ is_set-last n l) in
    omega arith

-- ---- some bit

-- of a number by its half and its last digit
or-zero : (y r : ℕ) → r < 2 → (not (eqb y 0) || eqb r 1) ≡ not (eqb (2 * y + r) 0)
or-zero zero zero h = refl
or-zero zero (suc zero) h = refl
or-zero zero (suc (suc r)) h = let z : ⊥ = omega arith in absurd z
or-zero (suc y) r h =
    let p : eqb (suc y) 0 ≡ false = ne_eqb (suc y) 0 (λ e. omega arith) in
    let q : eqb (2 * suc y + r) 0 ≡ false = ne_eqb (2 * suc y + r) 0 (λ e. omega arith) in
    rw (p, q)

-- a bit from bit k on of a number of n bits is set
abbrev low_set : ℕ → ℕ → ℕ → Bool
low_set n m k = any n (λ b. leb k b && is_set n m b)

low_set-none : (n m k : ℕ) → n ≤ k → low_set n m k ≡ not (eqb (m % 2 ^ (n - k)) 0)
low_set-none n m k h =
    let e : n - k ≡ 0 = omega arith in
    rw (e, mod-one m) (any_false n (λ b. leb k b && is_set n m b) (λ b g. ap (λ (t : Bool). t && is_set n m b) (lt-leb k b (omega arith))))

low_set-suc : (n m k : ℕ) → k ≤ n → low_set n (m / 2) k ≡ not (eqb (m / 2 % 2 ^ (n - k)) 0) → low_set (suc n) m k ≡ not (eqb (m % 2 ^ (suc n - k)) 0)
low_set-suc n m k h above =
    let e : suc n - k ≡ suc (n - k) = omega arith in
    let half : any n (λ b. leb k b && is_set (suc n) m b) ≡ low_set n (m / 2) k = any_cong n _ _ (λ b g. ap (λ (t : Bool). leb k b && t) (is_set-half n m b g)) in
    rw (half ∙ above, le-leb k n h, is_set-last n m, e, mod_pow-suc m (n - k)) (or-zero (m / 2 % 2 ^ (n - k)) (m % 2) (omega arith))

pub low-is_set : (n m k : ℕ) → k ≤ n → any n (λ b. leb k b && is_set n m b) ≡ not (eqb (m % 2 ^ (n - k)) 0)
low-is_set zero m k h = low_set-none 0 m k (omega arith)
low-is_set (suc n) m k h = elim (lt-or-le n k) [ inl l ↦ low_set-none (suc n) m k l | inr l ↦ low_set-suc n m k l (low-is_set n (m / 2) k l) ]

pub any-is_set : (n m : ℕ) → m < 2 ^ n → any n (is_set n m) ≡ not (eqb m 0)
any-is_set n m h =
    any_cong n (is_set n m) (λ b. leb 0 b && is_set n m b) (λ b g. ap (λ (t : Bool). t && is_set n m b) (sym (leb-zero b)))
    ∙ low-is_set n m 0 (omega arith)
    ∙ ap (λ (x : ℕ). not (eqb x 0)) (ap (λ (k : ℕ). m % 2 ^ k) (sub-zero n) ∙ mod-eq_of_lt h)

pub any-is_set-zero : (n m : ℕ) → m < 2 ^ n → any n (is_set n m) ≡ false → m ≡ 0
any-is_set-zero n m h e = let z : not (eqb m 0) ≡ false = sym (any-is_set n m h) ∙ e in omega tests

-- ---- how many bits

on-digit : (r : ℕ) → r < 2 → on (eqb r 1) 1 ≡ r
on-digit zero h = refl
on-digit (suc zero) h = refl
on-digit (suc (suc r)) h = omega arith

pub count-is_set : (n m : ℕ) → m < 2 ^ n → count n (is_set n m) ≡ ones m
count-is_set zero m h = let e : m ≡ 0 = omega arith in rw e (unfold ones in refl)
count-is_set (suc n) m h =
    let above : sum n (λ b. on (is_set (suc n) m b) 1) ≡ ones (m / 2) =
    sum_cong n _ _ (λ b g. ap (λ (t : Bool). on t 1) (is_set-half n m b g)) ∙ count-is_set n (m / 2) (omega arith) in
    rw (above, is_set-last n m, on-digit (m % 2) (omega arith), ones_step m, add_comm (m % 2) (ones (m / 2)))
