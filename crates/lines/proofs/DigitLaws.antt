-- Laws of decimal digits.
--     digits-small    a number below 10 has one digit
--     digits_more     any other has the digits of its tenth, and its last digit
use Prim.Native.Nat.{ℕ, zero, suc, ◌+◌, ◌/◌, ◌%◌, ◌≤◌, ◌<◌}
use native.Mathlib.Omega.{arith}
use mathlib.Core.Path.{◌≡◌, ap}
use mathlib.Core.Bool.{cond}
use mathlib.Core.List.{List, [], ◌∷◌, ◌++◌}
use mathlib.Core.Logic.{inl, inr}
use lib.Dec.{ltb}
use borrow.Author.Tests.{lt-ltb, le-ltb}
use Rattle.bools.proofs.BoolLaws.{split, tests}
use Rattle.lines.specs.Lines.{digits_within, digits}

-- More turns than a number needs give the same digits.
enough : (k l n : ℕ) → n < k → n < l → digits_within k n ≡ digits_within l n
unfolding digits_within
enough zero l n g h = absurd (omega arith)
enough (suc k) zero n g h = absurd (omega arith)
enough (suc k) (suc l) n g h = elim (split (ltb n 10)) [
  | inl p ↦ rw p
  | inr p ↦ let more : 10 ≤ n = omega tests in
      let same : digits_within k (n / 10) ≡ digits_within l (n / 10) = enough k l (n / 10) (omega arith) (omega arith) in
      ap (λ (front : List ℕ). cond (ltb n 10) [] front ++ (48 + n % 10) ∷ []) same
]

pub digits-small : (n : ℕ) → n < 10 → digits n ≡ (48 + n % 10) ∷ []
unfolding digits digits_within
digits-small n h = rw (lt-ltb n 10 h)

pub digits_more : (n : ℕ) → 10 ≤ n → digits n ≡ digits (n / 10) ++ (48 + n % 10) ∷ []
unfolding digits digits_within
digits_more n h =
    rw (le-ltb n 10 h)
    (ap (λ (front : List ℕ). front ++ (48 + n % 10) ∷ []) (enough n (suc (n / 10)) (n / 10) (omega arith) (omega arith)))
