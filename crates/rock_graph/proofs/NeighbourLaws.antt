-- The sets of the rocks at each bench, filled rock by rock; and those of their other ends, filled bench by bench.
--     Filling        what the loop keeps: the sets have the rocks that were passed; how it starts and goes on
--     Nearing        the same of the other ends: the benches that were passed have theirs
use Prim.Native.Nat.{ℕ, ◌+◌, ◌<◌}
use mathlib.Core.Path.{◌≡◌, refl, sym, ap, ap₂, ◌∙◌}
use mathlib.Core.Bool.{Bool, true, false, ◌&&◌, ◌||◌}
use mathlib.Core.Logic.{inl, inr}
use mathlib.Core.List.{List}
use native.Mathlib.Omega.{arith}
use lib.ListN.{length, get_or, replicate, length-replicate, get_or-replicate}
use lib.Dec.{eqb, ltb}
use borrow.Author.Tests.{eq-eqb, ne_eqb, lt-ltb, le-ltb}
use Rattle.bools.proofs.BoolLaws.{and_unit, and-false_right, or_unit}
use Rattle.bools.proofs.OrderLaws.{eq-or-ne, lt-or-le}
use Rattle.bits.specs.Bits.{is_set}
use Rattle.bits.proofs.SetBits.{is_set-zero}
use Rattle.rocks.specs.RockArrays.{touches_at, other_at}

module _ (low high : List ℕ) where
  pub record Filling (r : ℕ) (incident : List ℕ) : Type 0 where
    pub long : length incident ≡ 64
    pub rocks : (v u : ℕ) → v < 64 → u < 64 → is_set 64 (get_or incident v 0) u ≡ (ltb u r && touches_at low high u v)

  pub filling_starts : {incident : List ℕ} → incident ≡ replicate 64 0 → Filling 0 incident
  filling_starts {incident} e =
      record {
        long = ap length e ∙ length-replicate {A = ℕ} 64 0;
        rocks = λ v u hv hu.
            ap (λ (x : ℕ). is_set 64 x u) (ap (λ (xs : List ℕ). get_or xs v 0) e ∙ get_or-replicate {A = ℕ} 64 v 0 0 hv) ∙ is_set-zero 64 u
            ∙ sym (ap (λ (x : Bool). x && touches_at low high u v) (le-ltb u 0 (omega arith)));
      }

  more_touched : (r v u : ℕ) → ((ltb u r && touches_at low high u v) || (eqb v (get_or low r 0) && eqb u r) || (eqb v (get_or high r 0) && eqb u r))
      ≡ (ltb u (r + 1) && touches_at low high u v)
  more_touched r v u = elim (eq-or-ne u r) [
    | inl e ↦
        let now : eqb u r ≡ true = eq-eqb u r e in
        let old : ltb u r ≡ false = le-ltb u r (omega arith) in
        let new : ltb u (r + 1) ≡ true = lt-ltb u (r + 1) (omega arith) in
        rw (now, old, new)
        (ap₂ (λ (x y : Bool). x || y) (and_unit (eqb v (get_or low r 0)) refl ∙ ap (λ (k : ℕ). eqb v (get_or low k 0)) (sym e))
        (and_unit (eqb v (get_or high r 0)) refl ∙ ap (λ (k : ℕ). eqb v (get_or high k 0)) (sym e)))
    | inr ne ↦
        let now : eqb u r ≡ false = ne_eqb u r ne in
        let same : ltb u r ≡ ltb u (r + 1) = elim (lt-or-le u r) [
          | inl l ↦ lt-ltb u r l ∙ sym (lt-ltb u (r + 1) (omega arith))
          | inr l ↦ le-ltb u r l ∙ sym (le-ltb u (r + 1) (elim (lt-or-le r u) [ inl k ↦ omega arith | inr k ↦ absurd (ne (omega arith)) ]))
        ] in
        or_unit ((ltb u r && touches_at low high u v) || (eqb v (get_or low r 0) && eqb u r)) (and-false_right (eqb v (get_or high r 0)) now)
        ∙ or_unit (ltb u r && touches_at low high u v) (and-false_right (eqb v (get_or low r 0)) now) ∙ ap (λ (x : Bool). x && touches_at low high u v) same
  ]

  pub filling_goes_on : (r lo hi : ℕ) (incident incident₁ : List ℕ) {incident₂ : List ℕ} → Filling r incident → lo ≡ get_or low r 0 → hi ≡ get_or high r 0
      → length incident₁ ≡ length incident → length incident₂ ≡ length incident₁
      → ((w u : ℕ) → w < length incident → u < 64 → is_set 64 (get_or incident₁ w 0) u ≡ (is_set 64 (get_or incident w 0) u || (eqb w lo && eqb u r)))
      → ((w u : ℕ) → w < length incident₁ → u < 64 → is_set 64 (get_or incident₂ w 0) u ≡ (is_set 64 (get_or incident₁ w 0) u || (eqb w hi && eqb u r)))
      → Filling (r + 1) incident₂
  filling_goes_on r lo hi incident incident₁ {incident₂} F el eh long₁ long₂ first second =
      record {
        long = long₂ ∙ long₁ ∙ F.long;
        rocks = λ v u hv hu.
            second v u (omega (arith, F.long)) hu ∙ ap (λ (x : Bool). x || (eqb v hi && eqb u r)) (first v u (omega (arith, F.long)) hu)
            ∙ ap (λ (x : Bool). x || (eqb v lo && eqb u r) || (eqb v hi && eqb u r)) (F.rocks v u hv hu)
            ∙ ap₂ (λ (x y : ℕ). (ltb u r && touches_at low high u v) || (eqb v x && eqb u r) || (eqb v y && eqb u r)) el eh
            ∙ more_touched r v u;
      }

-- ── the other ends ──

module _ (low high incident : List ℕ) where
  pub record Nearing (v : ℕ) (neighbours : List ℕ) : Type 0 where
    pub long : length neighbours ≡ 64
    pub ends : (r u : ℕ) → u < v → u < 64 → r < 64 → is_set 64 (get_or incident u 0) r ≡ true → other_at low high r u < 64
        → is_set 64 (get_or neighbours u 0) (other_at low high r u) ≡ true
