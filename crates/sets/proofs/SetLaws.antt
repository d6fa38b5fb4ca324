-- Sets of numbers below 64 as numbers.
--     or_bit                    a digit of a or b
--     and-is_set, or-is_set, less-is_set  the numbers that both sets have, that one has, and that the first has and the second lacks
--     lowest-first              the lowest number of a set: it is in the set, and none below it
--     above_set                 the numbers of a set that are higher than one
--     after_set, after_less     a set without its lowest number; as a number it is less
--     has_past, has_in          whether a number is in a set
--     in-is_set                 that it is below 64 need not be tested
--     choices_below             how many numbers a set of numbers below m has
use Prim.Native.Nat.{ℕ, zero, suc, ◌+◌, ◌-◌, ◌*◌, ◌/◌, ◌%◌, ◌^◌, ◌≤◌, ◌<◌, min, max}
use mathlib.Core.Path.{◌≡◌, refl, sym, ap, subst, ◌∙◌}
use mathlib.Core.Bool.{Bool, true, false, not, ◌&&◌, ◌||◌}
use mathlib.Core.Logic.{inl, inr}
use native.Mathlib.Omega.{arith}
use lib.Bits.{bit_and, bit_or, and_step, and_shr, or_step, or_shr}
use Rattle.std.proofs.Common.{w64}
use Rattle.std.proofs.lemmas.Nat.Bits.{bit_at_not}
use lib.Dec.{eqb, ltb}
use native.Mathlib.Nat.{mod-lt, mul-le-mul, le_refl}
use lib.Pow.{field, mod-mod-pow, pow_pos, pow-lt, pow_mono, shr_lt, split as parts-of}
use borrow.Author.Tests.{eq-eqb, ne_eqb, eqb-true, lt-ltb, le-ltb}
use Rattle.bools.proofs.BoolLaws.{and_intro, and-false_left, and-false_right, not_intro_true, and_unit}
use Rattle.bools.proofs.OrderLaws.{eq-or-ne, lt-or-le, lt_of_ne}
use Rattle.sums.specs.Sum.{count}
use Rattle.sums.proofs.SearchLaws.{least-holds, least-before}
use Rattle.sums.proofs.CountLaws.{count_cong, count_none, count-split}
use Rattle.bits.specs.Bits.{is_set}
use Rattle.bits.proofs.SetBits.{is_set-digit, is_set-past, is_set-zero}
use Rattle.sets.specs.Sets.{choices_of, lowest_of}

even_plus : (k m : ℕ) → m < 2 → (k * 2 + m) % 2 ≡ m
even_plus k m h = omega arith

and_odd : (a b : ℕ) → bit_and a b % 2 ≡ min (a % 2) (b % 2)
and_odd a b = ap (λ (k : ℕ). k % 2) (and_step a b) ∙ even_plus (bit_and (a / 2) (b / 2)) (min (a % 2) (b % 2)) (omega arith)

and_bit : (a b k : ℕ) → bit_and a b / 2 ^ k % 2 ≡ min (a / 2 ^ k % 2) (b / 2 ^ k % 2)
and_bit a b k = ap (λ (x : ℕ). x % 2) (and_shr a b k) ∙ and_odd (a / 2 ^ k) (b / 2 ^ k)

min-one : (x y : ℕ) → x < 2 → y < 2 → eqb (min x y) 1 ≡ (eqb x 1 && eqb y 1)
min-one x y hx hy = elim (eq-or-ne x 1) [
  | inr ne ↦ ne_eqb (min x y) 1 (λ e. ne (omega arith)) ∙ sym (and-false_left (eqb y 1) (ne_eqb x 1 ne))
  | inl e ↦ elim (eq-or-ne y 1) [
    | inr ne ↦ ne_eqb (min x y) 1 (λ q. ne (omega arith)) ∙ sym (and-false_right (eqb x 1) (ne_eqb y 1 ne))
    | inl f ↦ eq-eqb (min x y) 1 (omega arith) ∙ sym (and_intro (eq-eqb x 1 e) (eq-eqb y 1 f))
  ]
]

pub and-is_set : (a b u : ℕ) → is_set 64 (bit_and a b) u ≡ (is_set 64 a u && is_set 64 b u)
and-is_set a b u = elim (lt-or-le u 64) [
  | inl l ↦
      rw (is_set-digit 64 (bit_and a b) u l, is_set-digit 64 a u l, is_set-digit 64 b u l)
      (ap (λ (x : ℕ). eqb x 1) (and_bit a b (64 - 1 - u)) ∙ min-one (a / 2 ^ (64 - 1 - u) % 2) (b / 2 ^ (64 - 1 - u) % 2) (omega arith) (omega arith))
  | inr l ↦ rw (is_set-past 64 (bit_and a b) u l, is_set-past 64 a u l)
]

or_odd : (a b : ℕ) → bit_or a b % 2 ≡ max (a % 2) (b % 2)
or_odd a b = ap (λ (k : ℕ). k % 2) (or_step a b) ∙ even_plus (bit_or (a / 2) (b / 2)) (max (a % 2) (b % 2)) (omega arith)

pub or_bit : (a b k : ℕ) → bit_or a b / 2 ^ k % 2 ≡ max (a / 2 ^ k % 2) (b / 2 ^ k % 2)
or_bit a b k = ap (λ (x : ℕ). x % 2) (or_shr a b k) ∙ or_odd (a / 2 ^ k) (b / 2 ^ k)

max-one : (x y : ℕ) → x < 2 → y < 2 → eqb (max x y) 1 ≡ (eqb x 1 || eqb y 1)
max-one x y hx hy = elim (eq-or-ne x 1) [
  | inl e ↦ eq-eqb (max x y) 1 (omega arith) ∙ sym (ap (λ (k : Bool). k || eqb y 1) (eq-eqb x 1 e))
  | inr ne ↦
      let none : x ≡ 0 = elim (lt-or-le x 1) [ inl l ↦ omega arith | inr l ↦ absurd (ne (omega arith)) ] in
      let same : max x y ≡ y = omega arith in
      ap (λ (k : ℕ). eqb k 1) same ∙ sym (ap (λ (k : Bool). k || eqb y 1) (ne_eqb x 1 ne))
]

pub or-is_set : (a b u : ℕ) → is_set 64 (bit_or a b) u ≡ (is_set 64 a u || is_set 64 b u)
or-is_set a b u = elim (lt-or-le u 64) [
  | inl l ↦
      rw (is_set-digit 64 (bit_or a b) u l, is_set-digit 64 a u l, is_set-digit 64 b u l)
      (ap (λ (x : ℕ). eqb x 1) (or_bit a b (64 - 1 - u))
      ∙ max-one (a / 2 ^ (64 - 1 - u) % 2) (b / 2 ^ (64 - 1 - u) % 2) (omega arith) (omega arith))
  | inr l ↦ rw (is_set-past 64 (bit_or a b) u l, is_set-past 64 a u l, is_set-past 64 b u l)
]

-- ── the first less the second ──

other_digit : (x : ℕ) → x < 2 → eqb (1 - x) 1 ≡ not (eqb x 1)
other_digit zero h = refl
other_digit (suc zero) h = refl
other_digit (suc (suc x)) h = absurd (omega arith)

not-is_set : (b u : ℕ) → b < 2 ^ 64 → u < 64 → is_set 64 (18446744073709551615 - b) u ≡ not (is_set 64 b u)
not-is_set b u fits h =
    let digit : (18446744073709551615 - b) / 2 ^ (64 - 1 - u) % 2 ≡ 1 - b / 2 ^ (64 - 1 - u) % 2 =
    bit_at_not w64 b (64 - 1 - u) fits (omega arith) in
    rw (is_set-digit 64 (18446744073709551615 - b) u h, is_set-digit 64 b u h)
    (ap (λ (x : ℕ). eqb x 1) digit ∙ other_digit (b / 2 ^ (64 - 1 - u) % 2) (omega arith))

pub less-is_set : (a b u : ℕ) → b < 2 ^ 64
    → is_set 64 (bit_and a (18446744073709551615 - b)) u ≡ (is_set 64 a u && not (is_set 64 b u))
less-is_set a b u fits = and-is_set a (18446744073709551615 - b) u ∙ elim (lt-or-le u 64) [
  | inl l ↦ ap (λ (t : Bool). is_set 64 a u && t) (not-is_set b u fits l)
  | inr l ↦ rw (is_set-past 64 a u l)
]

-- ── a set without its lowest number ──

none_left : (n k : ℕ) → n < 2 ^ k → n / 2 ^ k ≡ 0
none_left n k h =
    let same : k ≡ 0 + k = omega arith in
    let small : n / 2 ^ k < 2 ^ 0 = shr_lt 0 k (subst (λ (x : ℕ). n < 2 ^ x) same h) in
    omega arith

pub power_fits : (v : ℕ) → 1 * 2 ^ (63 - v) % 18446744073709551616 ≡ 2 ^ (63 - v)
power_fits v = let small : 2 ^ (63 - v) < 2 ^ 64 = pow-lt {i = 63 - v} {j = 64} (omega arith) in omega arith

pub lowest_holds : (set v : ℕ) → v ≡ lowest_of set → v < 64 → is_set 64 set v ≡ true
unfolding lowest_of
lowest_holds set v e h = subst (λ (k : ℕ). is_set 64 set k ≡ true) (sym e) (least-holds 64 (is_set 64 set) (subst (λ (k : ℕ). k < 64) e h))

pub lowest_before : (set v u : ℕ) → v ≡ lowest_of set → u < v → is_set 64 set u ≡ false
unfolding lowest_of
lowest_before set v u e h = least-before 64 (is_set 64 set) u (subst (λ (k : ℕ). u < k) e h)

bit_below : (set k j : ℕ) → set % 2 ^ (suc j + k) / 2 ^ k % 2 ≡ set / 2 ^ k % 2
bit_below set k j =
    let more : suc j ≡ j + 1 = omega arith in
    ap (λ (x : ℕ). x % 2) (field set (suc j) k) ∙ ap (λ (x : ℕ). set / 2 ^ k % 2 ^ x % 2) more ∙ mod-mod-pow (set / 2 ^ k) j 1

after_above : (s x y : ℕ) → x < y → y < 64 → is_set 64 (s % 2 ^ (63 - x)) y ≡ is_set 64 s y
after_above s x y l h =
    let j : ℕ = y - x - 1 in
    let parts : 63 - x ≡ suc j + (64 - 1 - y) = omega arith in
    rw (is_set-digit 64 (s % 2 ^ (63 - x)) y h, is_set-digit 64 s y h)
    (ap (λ (k : ℕ). eqb (s % 2 ^ k / 2 ^ (64 - 1 - y) % 2) 1) parts ∙ ap (λ (k : ℕ). eqb k 1) (bit_below s (64 - 1 - y) j))

after_below : (s x y : ℕ) → y ≤ x → x < 64 → is_set 64 (s % 2 ^ (63 - x)) y ≡ false
after_below s x y l h =
    let rest : s % 2 ^ (63 - x) < 2 ^ (63 - x) = mod-lt s (pow_pos (63 - x)) in
    let wider : 2 ^ (63 - x) ≤ 2 ^ (64 - 1 - y) = pow_mono (omega arith) in
    rw (is_set-digit 64 (s % 2 ^ (63 - x)) y (omega arith)) (ap (λ (k : ℕ). eqb (k % 2) 1) (none_left (s % 2 ^ (63 - x)) (64 - 1 - y) (omega arith)))

pub after_set : (set v u : ℕ) → v ≡ lowest_of set → v < 64 → u < 64 → is_set 64 (set % 2 ^ (63 - v)) u ≡ (is_set 64 set u && not (eqb u v))
after_set set v u e hv hu = elim (lt-or-le v u) [
  | inl l ↦ after_above set v u l hu ∙ sym (and_unit (is_set 64 set u) (not_intro_true (ne_eqb u v (λ q. omega arith))))
  | inr l ↦ after_below set v u l hv ∙ elim (eq-or-ne u v) [
    | inl q ↦ sym (and-false_right (is_set 64 set u) (ap not (eq-eqb u v q)))
    | inr q ↦ sym (and-false_left (not (eqb u v)) (lowest_before set v u e (lt_of_ne u v l q)))
  ]
]

bit_some : (s x : ℕ) → x < 64 → is_set 64 s x ≡ true → 1 ≤ s / 2 ^ (63 - x)
bit_some s x l p =
    let same : 64 - 1 - x ≡ 63 - x = omega arith in
    let one : s / 2 ^ (64 - 1 - x) % 2 ≡ 1 = eqb-true (s / 2 ^ (64 - 1 - x) % 2) 1 (sym (is_set-digit 64 s x l) ∙ p) in
    subst (λ (k : ℕ). 1 ≤ s / 2 ^ k) same (omega arith)

pub after_less : (set v : ℕ) → v ≡ lowest_of set → v < 64 → set % 2 ^ (63 - v) < set
after_less set v e h =
    let q : ℕ = set / 2 ^ (63 - v) in
    let some : 1 ≤ q = bit_some set v h (lowest_holds set v e h) in
    let rest : set % 2 ^ (63 - v) < 2 ^ (63 - v) = mod-lt set (pow_pos (63 - v)) in
    let whole : set / 2 ^ (63 - v) * 2 ^ (63 - v) + set % 2 ^ (63 - v) ≡ set = parts-of set (63 - v) in
    let much : 1 * 2 ^ (63 - v) ≤ q * 2 ^ (63 - v) = mul-le-mul some (le_refl (2 ^ (63 - v))) in
    omega arith

-- ── the numbers above one ──

pub above_set : (set v u : ℕ) → v < 64 → u < 64 → is_set 64 (set % 2 ^ (63 - v)) u ≡ (is_set 64 set u && ltb v u)
above_set set v u hv hu = elim (lt-or-le v u) [
  | inl l ↦ after_above set v u l hu ∙ sym (and_unit (is_set 64 set u) (lt-ltb v u l))
  | inr l ↦ after_below set v u l hv ∙ sym (and-false_right (is_set 64 set u) (le-ltb v u l))
]

pub above_none : (set v u : ℕ) → 63 < v → u < 64 → is_set 64 0 u ≡ (is_set 64 set u && ltb v u)
above_none set v u h l = is_set-zero 64 u ∙ sym (and-false_right (is_set 64 set u) (le-ltb v u (omega arith)))

-- ── a set of benches in a mask ──

pub has_past : (mask v : ℕ) → 63 < v → false ≡ is_set 64 mask v
has_past mask v h = sym (is_set-past 64 mask v (omega arith))

pub has_in : (mask v : ℕ) → v ≤ 63 → eqb (mask / 2 ^ (63 - v) % 2) 1 ≡ is_set 64 mask v
has_in mask v h = sym (is_set-digit 64 mask v (omega arith))

pub in-is_set : (set v : ℕ) → (ltb v 64 && is_set 64 set v) ≡ is_set 64 set v
in-is_set set v = elim (lt-or-le v 64) [
  | inl l ↦ ap (λ (k : Bool). k && is_set 64 set v) (lt-ltb v 64 l)
  | inr l ↦ and-false_right (ltb v 64) (is_set-past 64 set v l) ∙ sym (is_set-past 64 set v l)
]

-- ── how many numbers ──

count-below : (m n : ℕ) (f : ℕ → Bool) → m ≤ n → count n (λ i. ltb i m && f i) ≡ count m f
count-below m n f few =
    let k : ℕ = n - m in
    let parts : n ≡ m + k = omega arith in
    let g : ℕ → Bool = λ i. ltb i m && f i in
    let near : count m g ≡ count m f = count_cong m g f (λ i h. ap (λ (t : Bool). t && f i) (lt-ltb i m h)) in
    let far : count k (λ i. g (m + i)) ≡ 0 = count_none k (λ i. g (m + i)) (λ i h. and-false_left (f (m + i)) (le-ltb (m + i) m (omega arith))) in
    ap (λ (x : ℕ). count x g) parts ∙ count-split m k g ∙ omega (arith, near, far)

pub choices_below : (set m : ℕ) (S : ℕ → Bool) → m ≤ 64 → ((v : ℕ) → v < 64 → is_set 64 set v ≡ (ltb v m && S v)) → choices_of set ≡ count m S
unfolding choices_of
choices_below set m S few same = count_cong 64 (is_set 64 set) (λ v. ltb v m && S v) same ∙ count-below m 64 S few
