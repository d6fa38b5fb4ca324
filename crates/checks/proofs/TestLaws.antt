-- The tests of faults 7 to 11, each decided by the comparisons that the program makes.
--     share_fault-p, -q, -zero, -low, -high    each part of fault 8 makes it; share_fault-sound: no part, no fault
--     shifted-zero                    no bit is left behind the head's benches exactly where the low bits are 0
--     allowed_fault-none, -lacking    each part of fault 11 makes it; allowed_fault-sound, -full: no part, no fault
use Prim.Native.Nat.{ℕ, ◌+◌, ◌-◌, ◌*◌, ◌/◌, ◌%◌, ◌^◌, ◌≤◌, ◌<◌}
use mathlib.Core.Path.{◌≡◌, sym, ap, subst, ◌∙◌}
use mathlib.Core.Bool.{true, false, not, ◌&&◌, or-true}
use native.Mathlib.Nat.{mul_assoc, add-mul, sub-add_cancel, mul-lt-mul_of_pos_right, mod-lt, div-add-mod', zero-mul, mul-div_cancel, zero-div}
use native.Mathlib.Omega.{arith}
use lib.Dec.{leb}
use lib.Pow.{pow_pos, pow-add}
use lib.Arith.{digits_mod}
use borrow.Author.Tests.{eq-eqb, ne_eqb, lt-ltb, le-ltb, le-leb, lt-leb}
use Rattle.sums.specs.Search.{any}
use Rattle.sums.proofs.SearchLaws.{any_false}
use Rattle.bits.proofs.SetBits.{any-is_set, low-is_set}
use Rattle.fields.specs.declared.sheet.Head.{Head}
use Rattle.fields.specs.declared.sheet.Job.{Job}
use Rattle.fields.specs.Format.{allows}
use Rattle.fields.specs.Tests.{share_fault, allowed_fault}

module _ (h : Head) where
  pub share_fault-p : 128 ≤ h.p → share_fault h ≡ true
  share_fault-p e = simp (le-leb 128 h.p e, or-true)

  pub share_fault-q : 128 ≤ h.q → share_fault h ≡ true
  share_fault-q e = simp (le-leb 128 h.q e, or-true)

  pub share_fault-zero : h.q ≡ 0 → share_fault h ≡ true
  share_fault-zero e = simp (eq-eqb h.q 0 e)

  pub share_fault-low : 7 * h.p < 4 * h.q → share_fault h ≡ true
  share_fault-low e = simp (lt-ltb (7 * h.p) (4 * h.q) e, or-true)

  pub share_fault-high : h.q ≤ h.p → share_fault h ≡ true
  share_fault-high e = simp (le-leb h.q h.p e, or-true)

  pub share_fault-sound : h.p < 128 → h.q < 128 → (h.q ≡ 0 → ⊥) → 4 * h.q ≤ 7 * h.p → h.p < h.q → share_fault h ≡ false
  share_fault-sound p q z low high =
      rw (ne_eqb h.q 0 z, le-ltb (7 * h.p) (4 * h.q) low, lt-leb h.q h.p high, lt-leb 128 h.p p, lt-leb 128 h.q q)

-- a * 2 ^ k modulo 2 ^ 64 keeps the low 64 - k bits of a.
shifted : (a k : ℕ) → k ≤ 64 → a * 2 ^ k % 2 ^ 64 ≡ a % 2 ^ (64 - k) * 2 ^ k
shifted a k h =
    let c : ℕ = 64 - k in
    let whole : 2 ^ c * 2 ^ k ≡ 2 ^ 64 = sym (pow-add 2 c k) ∙ ap (λ (n : ℕ). 2 ^ n) (sub-add_cancel h) in
    let parts : a * 2 ^ k ≡ a / 2 ^ c * 2 ^ 64 + a % 2 ^ c * 2 ^ k =
    ap (λ (n : ℕ). n * 2 ^ k) (sym (div-add-mod' a (2 ^ c)))
    ∙ add-mul (a / 2 ^ c * 2 ^ c) (a % 2 ^ c) (2 ^ k)
    ∙ ap (λ (n : ℕ). n + a % 2 ^ c * 2 ^ k) (mul_assoc (a / 2 ^ c) (2 ^ c) (2 ^ k) ∙ ap (λ (n : ℕ). a / 2 ^ c * n) whole)
    in
    let small : a % 2 ^ c * 2 ^ k < 2 ^ 64 = subst (λ (n : ℕ). a % 2 ^ c * 2 ^ k < n) whole (mul-lt-mul_of_pos_right (mod-lt a (pow_pos c)) (pow_pos k)) in
    ap (λ (n : ℕ). n % 2 ^ 64) parts ∙ digits_mod (a / 2 ^ c) small

pub shifted-zero : (a k : ℕ) → k ≤ 64 → a * 2 ^ k % 2 ^ 64 ≡ 0 → a % 2 ^ (64 - k) ≡ 0
shifted-zero a k h e =
    sym (mul-div_cancel (a % 2 ^ (64 - k)) (pow_pos k)) ∙ ap (λ (n : ℕ). n / 2 ^ k) (sym (shifted a k h) ∙ e) ∙ zero-div (2 ^ k)

pub zero-shifted : (a k : ℕ) → k ≤ 64 → a % 2 ^ (64 - k) ≡ 0 → a * 2 ^ k % 2 ^ 64 ≡ 0
zero-shifted a k h e = rw (shifted a k h, e) (zero-mul (2 ^ k))

module _ (m : ℕ) (j : Job) (fits : j.allowed < 2 ^ 64) where
  pub allowed_fault-none : j.allowed ≡ 0 → allowed_fault m j ≡ true
  allowed_fault-none e = rw (any-is_set 64 j.allowed fits, eq-eqb j.allowed 0 e)

  pub allowed_fault-lacking : m ≤ 64 → (j.allowed * 2 ^ m % 2 ^ 64 ≡ 0 → ⊥) → allowed_fault m j ≡ true
  allowed_fault-lacking h e =
      rw (low-is_set 64 j.allowed m h, ne_eqb (j.allowed % 2 ^ (64 - m)) 0 (λ z. e (zero-shifted j.allowed m h z)))
      (or-true (not (any 64 (allows j))))

  pub allowed_fault-sound : (j.allowed ≡ 0 → ⊥) → m ≤ 64 → j.allowed * 2 ^ m % 2 ^ 64 ≡ 0 → allowed_fault m j ≡ false
  allowed_fault-sound some h e =
      rw (
        any-is_set 64 j.allowed fits,
        low-is_set 64 j.allowed m h,
        ne_eqb j.allowed 0 some,
        eq-eqb (j.allowed % 2 ^ (64 - m)) 0 (shifted-zero j.allowed m h e),
      )

  -- A head with 64 benches lacks none that the field can name.
  pub allowed_fault-full : (j.allowed ≡ 0 → ⊥) → 64 ≤ m → allowed_fault m j ≡ false
  allowed_fault-full some h =
      rw (any-is_set 64 j.allowed fits, ne_eqb j.allowed 0 some)
      (any_false 64 (λ b. leb m b && allows j b) (λ b below. rw (lt-leb m b (omega arith))))
