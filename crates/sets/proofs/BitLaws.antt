-- Sets of numbers below 64 by their bits.
--     leading-least, trailing-least  zeros before the first and behind the last number of a set
--     choices_count, lowest_leading, highest_trailing     so the processor's counts are those of the set
--     with_bench                     a set with one more number
use Prim.Native.Nat.{ℕ, zero, suc, ◌+◌, ◌-◌, ◌*◌, ◌/◌, ◌%◌, ◌^◌, ◌≤◌, ◌<◌, max}
use mathlib.Core.Path.{◌≡◌, refl, sym, ap, ◌∙◌}
use mathlib.Core.Bool.{true, false, ◌||◌}
use mathlib.Core.Logic.{inl, inr}
use native.Mathlib.Nat.{pow-suc, eq-zero-or-pos, div-lt_iff_lt-mul, div-one}
use native.Mathlib.Omega.{arith}
use lib.Dec.{eqb}
use lib.Bits.{bit_or}
use lib.Pow.{pow_mono, pow_pos, pow-lt, pow-add, shl-shr, shr-shr}
use lib.Count.{ones, count_leading_zeros, count_trailing_zeros, leading_of_zero, leading_top}
use borrow.Author.Tests.{eq-eqb, ne_eqb}
use Rattle.bools.proofs.BoolLaws.{or_right, or_unit}
use Rattle.bools.proofs.OrderLaws.{eq-or-ne, lt-or-le, lt_of_ne}
use Rattle.sums.specs.Search.{least}
use Rattle.sums.proofs.SearchLaws.{least-found, least-none, least-here, least-there, least_cong}
use Rattle.bits.specs.Bits.{is_set}
use Rattle.bits.proofs.SetBits.{is_set-digit, is_set-zero, count-is_set}
use Rattle.sets.proofs.SetLaws.{or_bit}
use Rattle.sets.specs.Sets.{choices_of, lowest_of, highest_of}

-- ── sets of benches ──

quotient_one : (a y : ℕ) → 0 < y → y ≤ a → a < y * 2 → a / y ≡ 1
quotient_one a y p lo hi =
    let less : a / y < 2 = (div-lt_iff_lt-mul p).1 (omega arith) in
    let some : 1 ≤ a / y = elim (lt-or-le (a / y) 1) [
      | inl l ↦ let none : a < 1 * y = (div-lt_iff_lt-mul p).0 l in absurd (omega arith)
      | inr l ↦ l
    ] in
    omega arith

quotient_none : (a y : ℕ) → a < y → a / y ≡ 0
quotient_none a y h =
    let p : 0 < y = omega arith in
    let less : a / y < 1 = (div-lt_iff_lt-mul p).1 (omega arith) in
    omega arith

pub leading-least : (k a : ℕ) → a < 2 ^ k → count_leading_zeros k a ≡ least k (is_set k a)
leading-least k a h = elim (eq-zero-or-pos a) [
  | inl e ↦ rw e (leading_of_zero k ∙ sym (least-none k (is_set k 0) (λ i l. is_set-zero k i)))
  | inr p ↦
      let (j, e, lo, hi) = leading_top k a p h in
      let z = count_leading_zeros k a in
      let place : k - 1 - z ≡ j = omega arith in
      let one : a / 2 ^ j ≡ 1 = quotient_one a (2 ^ j) (pow_pos j) lo (omega (arith, pow-suc 2 j)) in
      sym (least-found k (is_set k a) z (omega arith) (rw (is_set-digit k a z (omega arith), place, one))
      (λ i l.
      let more : suc j ≤ k - 1 - i = omega arith in
      let none : a / 2 ^ (k - 1 - i) ≡ 0 = quotient_none a (2 ^ (k - 1 - i)) (omega (arith, pow_mono more)) in
      rw (is_set-digit k a i (omega arith), none)))
]

pub trailing-least : (k a : ℕ) → count_trailing_zeros k a ≡ least k (λ i. eqb (a / 2 ^ i % 2) 1)
unfolding count_trailing_zeros
trailing-least zero a = refl
trailing-least (suc k) a = elim (lt-or-le (a % 2) 1) [
  | inl l ↦
      let even : a % 2 ≡ 0 = omega arith in
      let first : eqb (a / 2 ^ 0 % 2) 1 ≡ false = rw (div-one a, even) in
      let later : count_trailing_zeros k (a / 2) ≡ least k (λ i. eqb (a / 2 ^ suc i % 2) 1) =
      trailing-least k (a / 2) ∙ least_cong k (λ i. eqb (a / 2 / 2 ^ i % 2) 1) (λ i. eqb (a / 2 ^ suc i % 2) 1)
      (λ i h. let e : 1 + i ≡ suc i = omega arith in ap (λ (k : ℕ). eqb (k % 2) 1) (shr-shr a 1 i ∙ ap (λ (m : ℕ). a / 2 ^ m) e)) in
      rw even (ap suc later ∙ sym (least-there k (λ i. eqb (a / 2 ^ i % 2) 1) first))
  | inr l ↦
      let odd : a % 2 ≡ 1 = omega arith in
      let first : eqb (a / 2 ^ 0 % 2) 1 ≡ true = rw (div-one a, odd) in
      rw odd (sym (least-here k (λ i. eqb (a / 2 ^ i % 2) 1) first))
]

-- From the last of n + 1 benches down.
trailing_set : (n a : ℕ) → count_trailing_zeros (suc n) a ≡ least (suc n) (λ i. is_set (suc n) a (n - i))
trailing_set n a =
    trailing-least (suc n) a
    ∙ least_cong (suc n) (λ i. eqb (a / 2 ^ i % 2) 1) (λ i. is_set (suc n) a (n - i))
    (λ i h. let e : suc n - 1 - (n - i) ≡ i = omega arith in rw (is_set-digit (suc n) a (n - i) (omega arith), e))

pub choices_count : (a : ℕ) → a < 2 ^ 64 → ones a ≡ choices_of a
unfolding choices_of
choices_count a h = sym (count-is_set 64 a h)

pub lowest_leading : (a : ℕ) → a < 2 ^ 64 → count_leading_zeros 64 a ≡ lowest_of a
unfolding lowest_of
lowest_leading a h = leading-least 64 a h

pub highest_trailing : (a : ℕ) → 63 - count_trailing_zeros 64 a ≡ highest_of a
unfolding highest_of
highest_trailing a = ap (λ (k : ℕ). 63 - k) (trailing_set 63 a)

-- ── a set with one more bench ──

even : (k : ℕ) → k * 2 % 2 ≡ 0
even k = omega arith

power_here : (k : ℕ) → 2 ^ k / 2 ^ k % 2 ≡ 1
power_here k = let p = pow_pos k in let one : 2 ^ k / 2 ^ k ≡ 1 = quotient_one (2 ^ k) (2 ^ k) p (omega arith) (omega arith) in rw one

power_else : (i k : ℕ) → (i ≡ k → ⊥) → 2 ^ i / 2 ^ k % 2 ≡ 0
power_else i k ne = elim (lt-or-le i k) [
  | inl l ↦ let none : 2 ^ i / 2 ^ k ≡ 0 = quotient_none (2 ^ i) (2 ^ k) (pow-lt l) in rw none
  | inr l ↦ elim (eq-or-ne i k) [
    | inl e ↦ absurd (ne e)
    | inr q ↦
        let t : ℕ = i - k - 1 in
        let split-up : i ≡ suc t + k = let more : k < i = lt_of_ne k i l (λ e. q (sym e)) in omega arith in
        let quotient : 2 ^ i / 2 ^ k ≡ 2 ^ t * 2 = ap (λ (x : ℕ). 2 ^ x / 2 ^ k) split-up ∙ ap (λ (x : ℕ). x / 2 ^ k) (pow-add 2 (suc t) k) ∙ shl-shr (2 ^ suc t) k ∙ pow-suc 2 t in
        rw quotient (even (2 ^ t))
  ]
]

pub with_bench : (set v u : ℕ) → v < 64 → u < 64 → is_set 64 (bit_or set (1 * 2 ^ (63 - v) % 18446744073709551616)) u ≡ (is_set 64 set u || eqb u v)
with_bench set v u hv hu =
    let i : ℕ = 63 - v in
    let k : ℕ = 63 - u in
    let small : 2 ^ i < 2 ^ 64 = pow-lt {i = i} {j = 64} (omega arith) in
    let power : 1 * 2 ^ i % 18446744073709551616 ≡ 2 ^ i = omega arith in
    let bit : bit_or set (1 * 2 ^ i % 18446744073709551616) / 2 ^ k % 2 ≡ max (set / 2 ^ k % 2) (2 ^ i / 2 ^ k % 2) =
    ap (λ (x : ℕ). bit_or set x / 2 ^ k % 2) power ∙ or_bit set (2 ^ i) k in
    rw (is_set-digit 64 (bit_or set (1 * 2 ^ i % 18446744073709551616)) u hu, is_set-digit 64 set u hu)
    (ap (λ (x : ℕ). eqb x 1) bit
    ∙ elim (eq-or-ne u v) [
      | inl e ↦
          let same : i ≡ k = omega arith in
          let one : 2 ^ i / 2 ^ k % 2 ≡ 1 = ap (λ (x : ℕ). 2 ^ x / 2 ^ k % 2) same ∙ power_here k in
          eq-eqb (max (set / 2 ^ k % 2) (2 ^ i / 2 ^ k % 2)) 1 (omega arith) ∙ sym (or_right (eqb (set / 2 ^ k % 2) 1) (eq-eqb u v e))
      | inr ne ↦
          let none : 2 ^ i / 2 ^ k % 2 ≡ 0 = power_else i k (λ e. ne (omega arith)) in
          let same : max (set / 2 ^ k % 2) (2 ^ i / 2 ^ k % 2) ≡ set / 2 ^ k % 2 = omega arith in
          ap (λ (x : ℕ). eqb x 1) same ∙ sym (or_unit (eqb (set / 2 ^ k % 2) 1) (ne_eqb u v ne))
    ])
