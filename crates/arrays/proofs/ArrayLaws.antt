-- Laws of the array definitions: one for each way in which the program's functions return.
use Prim.Native.Nat.{ℕ, ◌+◌, ◌-◌, ◌≤◌, ◌<◌}
use mathlib.Core.Path.{◌≡◌, refl, sym, ◌∙◌, ap}
use mathlib.Core.Bool.{Bool, true, false, ◌&&◌, ◌||◌, cond}
use mathlib.Core.Logic.{inl, inr}
use native.Mathlib.Omega.{arith}
use lib.Dec.{ltb}
use borrow.Author.Tests.{lt-ltb, le-ltb}
use Rattle.bools.proofs.BoolLaws.{bool_ext, tests, and-false_left, and-false_right}
use Rattle.bools.proofs.OrderLaws.{last_or_below}
use Rattle.sums.specs.Search.{least}
use Rattle.sums.proofs.SearchLaws.{least-found, least-none}
use Rattle.arrays.specs.Arrays.{lower_of}

pub exceeds_above : (bound a w : ℕ) → bound < w → true ≡ ltb bound (a + w)
exceeds_above bound a w h = sym (lt-ltb bound (a + w) (omega arith))

pub exceeds_rest : (bound a w : ℕ) → w ≤ bound → ltb (bound - w) a ≡ ltb bound (a + w)
exceeds_rest bound a w h =
    bool_ext (ltb (bound - w) a) (ltb bound (a + w))
    (λ p. lt-ltb bound (a + w) (omega tests))
    (λ p. lt-ltb (bound - w) a (omega tests))

pub lower_not : (counts : Bool) (u v : ℕ) → counts ≡ false → v ≡ lower_of counts u v
lower_not counts u v e = rw e

pub lower_yes : (counts : Bool) (u v : ℕ) → counts ≡ true → u < v → u ≡ lower_of counts u v
lower_yes counts u v e l = rw (e, lt-ltb u v l)

pub lower_keeps : (counts : Bool) (u v : ℕ) → counts ≡ true → v ≤ u → v ≡ lower_of counts u v
lower_keeps counts u v e l = rw (e, le-ltb u v l)

-- ── a search that stops at the first ──

module _ (n : ℕ) (f : ℕ → Bool) where
  pub first_found : (r : ℕ) {t : Bool} → r < n → ((i : ℕ) → i < r → f i ≡ false) → t ≡ f r → t ≡ true → r ≡ least n f
  first_found r h before e p = sym (least-found n f r h (sym e ∙ p) before)

  pub first_none : (r : ℕ) → r ≤ n → n ≤ r → ((i : ℕ) → i < r → f i ≡ false) → r ≡ least n f
  first_none r h k before = let e : r ≡ n = omega arith in e ∙ sym (least-none n f (λ i l. before i (omega arith)))

pub first_more : (f : ℕ → Bool) (r : ℕ) {t : Bool} → ((i : ℕ) → i < r → f i ≡ false) → t ≡ f r → t ≡ false → (i : ℕ) → i < r + 1 → f i ≡ false
first_more f r before e p i l = elim (last_or_below {i = i} {n = r} (omega arith)) [
  | inl same ↦ rw same (sym e ∙ p)
  | inr below ↦ before i below
]

pub and_not : {a t : Bool} (b : Bool) → t ≡ a → t ≡ false → false ≡ (a && b)
and_not b e p = sym (and-false_left b (sym e ∙ p))

pub and_rest : {a b t u : Bool} → t ≡ a → t ≡ true → u ≡ b → u ≡ (a && b)
and_rest {a} {b} e p q = let x : a ≡ true = sym e ∙ p in rw x q

pub and_not_second : {b t : Bool} (a c : Bool) → t ≡ b → t ≡ false → false ≡ (a && (b && c))
and_not_second {b} a c e p = let x : b ≡ false = sym e ∙ p in rw x (sym (and-false_right a refl))

pub or_yes : {a t : Bool} (b : Bool) → t ≡ a → t ≡ true → true ≡ (a || b)
or_yes {a} b e p = let x : a ≡ true = sym e ∙ p in rw x

pub or_rest : {a b t u : Bool} → t ≡ a → t ≡ false → u ≡ b → u ≡ (a || b)
or_rest {a} {b} e p q = let x : a ≡ false = sym e ∙ p in rw x q

module _ {ℓ} {A : Type ℓ} where
  pub cond_yes : {x : Bool} {c : A} (a b : A) → x ≡ true → c ≡ a → c ≡ cond x a b
  cond_yes a b p e = e ∙ ap (λ (y : Bool). cond y a b) (sym p)

  pub cond_no : {x : Bool} (a b : A) → x ≡ false → b ≡ cond x a b
  cond_no a b p = ap (λ (y : Bool). cond y a b) (sym p)
