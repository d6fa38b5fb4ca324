-- Laws of sums and products that stop.
--     plus_one, plus_fits            sums that do not stop
--     times_fits, times_exact        products of small numbers
use Prim.Native.Nat.{ℕ, suc, ◌+◌, ◌<◌, ◌^◌, ◌*◌, ◌≤◌}
use mathlib.Core.Path.{◌≡◌}
use native.Mathlib.Omega.{arith}
use Rattle.arrays.specs.Arrays.{plus_of, times_of}
use native.Mathlib.Nat.{mul-le-mul}
use lib.Dec.{ltb}
use borrow.Author.Tests.{lt-ltb, le-ltb}
use Rattle.bools.proofs.BoolLaws.{and-false_right}

pub plus_one : (u : ℕ) → u < 2 ^ 63 → plus_of u 1 ≡ suc u
plus_one u h = omega arith

pub plus_fits : (a w : ℕ) → a + w < 2 ^ 63 → plus_of a w ≡ a + w
plus_fits a w h = omega arith

-- ── products ──

pub times_fits : (a b : ℕ) → a < 1048576 → b < 1073741824 → a * b < 2 ^ 64
times_fits a b ha hb =
    let ha' : a ≤ 1048575 = omega arith in
    let hb' : b ≤ 1073741823 = omega arith in
    omega (arith, mul-le-mul ha' hb')

pub times_exact : (a b : ℕ) → a < 1048576 → b < 1073741824 → times_of a b ≡ a * b
times_exact a b ha hb = rw (lt-ltb a 1048576 ha, lt-ltb b 1073741824 hb)

pub times_wide : (a b : ℕ) → 1048576 ≤ a → times_of a b ≡ 0
times_wide a b h = rw (le-ltb a 1048576 h)

pub times_far : (a b : ℕ) → 1073741824 ≤ b → times_of a b ≡ 0
times_far a b h = rw (and-false_right (ltb a 1048576) (le-ltb b 1073741824 h))
