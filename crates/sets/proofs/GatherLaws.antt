-- Loops that collect numbers into a set.
--     Gathered                       what a loop over the first k numbers keeps that collects those with f
--     gathered-all                   how it ends
--     has_some                       the entries of a table that are not 0
use Prim.Native.Nat.{ℕ, ◌+◌, ◌<◌}
use mathlib.Core.Path.{◌≡◌, refl, sym, ap, subst, ◌∙◌}
use mathlib.Core.Bool.{Bool, true, false, not, ◌&&◌, ◌||◌}
use mathlib.Core.Logic.{inl, inr}
use mathlib.Core.List.{List}
use native.Mathlib.Omega.{arith}
use lib.Dec.{eqb, ltb}
use lib.ListN.{get_or}
use borrow.Author.Tests.{lt-ltb, le-ltb, eq-eqb, ne_eqb}
use Rattle.bools.proofs.BoolLaws.{tests, bool_ext, and-false_left, and-false_right, and_unit, or_unit}
use Rattle.bools.proofs.OrderLaws.{eq-or-ne, lt_of_ne}
use Rattle.bits.specs.Bits.{is_set}
use Rattle.bits.proofs.SetBits.{is_set-zero}

-- ── the benches with f ──

pub record Gathered (f : ℕ → Bool) (k s : ℕ) : Type 0 where
  pub has : (u : ℕ) → u < 64 → is_set 64 s u ≡ (ltb u k && f u)

pub gathered_none : (f : ℕ → Bool) → Gathered f 0 0
gathered_none f = record { has = λ u h. is_set-zero 64 u ∙ sym (and-false_left (f u) (le-ltb u 0 (omega arith))) }

add-here : (f : ℕ → Bool) (k : ℕ) (c : Bool) → c ≡ f k → ((ltb k k && f k) || (c && eqb k k)) ≡ (ltb k (k + 1) && f k)
add-here f k c e =
    let p : ltb k k ≡ false = le-ltb k k (omega arith) in
    let q : ltb k (k + 1) ≡ true = lt-ltb k (k + 1) (omega arith) in
    let s : eqb k k ≡ true = eq-eqb k k refl in
    rw (p, q, s) (and_unit c refl ∙ e)

pub gathered_more : (f : ℕ → Bool) (k s s' : ℕ) (c : Bool) → Gathered f k s → c ≡ f k → ((u : ℕ) → u < 64 → is_set 64 s' u ≡ (is_set 64 s u || (c && eqb u k)))
    → Gathered f (k + 1) s'
gathered_more f k s s' c G e step =
    record {
      has = λ u h. step u h ∙ ap (λ (x : Bool). x || (c && eqb u k)) (G.has u h) ∙ elim (eq-or-ne u k) [
        | inl at ↦ subst (λ (x : ℕ). ((ltb x k && f x) || (c && eqb x k)) ≡ (ltb x (k + 1) && f x)) (sym at) (add-here f k c e)
        | inr ne ↦
            let away : (c && eqb u k) ≡ false = and-false_right c (ne_eqb u k ne) in
            let same : ltb u k ≡ ltb u (k + 1) =
            bool_ext (ltb u k) (ltb u (k + 1)) (λ p. lt-ltb u (k + 1) (omega tests)) (λ p. lt-ltb u k (lt_of_ne u k (omega tests) ne)) in
            or_unit (ltb u k && f u) away ∙ ap (λ (x : Bool). x && f u) same
      ];
    }

pub gathered-all : (f : ℕ → Bool) (k s : ℕ) {m : ℕ} → Gathered f k s → k ≡ m → (u : ℕ) → u < 64 → is_set 64 s u ≡ (ltb u m && f u)
gathered-all f k s G e u h = G.has u h ∙ ap (λ (x : ℕ). ltb u x && f u) e

-- The entries of a table that are not 0.
abbrev pub has_some : List ℕ → ℕ → Bool
has_some t u = not (eqb (get_or t u 0) 0)
