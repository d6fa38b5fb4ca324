-- Laws of iterate k step S, the set S after k rounds of step.
--     iterate-extends     what step keeps, iterate keeps: S is in S after k rounds
--     iterate-into        a property that S has, and that step keeps, S after k rounds has
--     iterate_fixed       below m nothing is added after m rounds, if step adds only, and looks only at numbers below m
use Prim.Native.Nat.{ℕ, zero, suc, ◌≤◌, ◌<◌}
use mathlib.Core.Bool.{Bool, true}
use mathlib.Core.Path.{◌≡◌, sym, ◌∙◌}
use mathlib.Core.Logic.{◌⊎◌, inl, inr}
use native.Mathlib.Omega.{arith}
use Rattle.bools.proofs.OrderLaws.{lt-or-le}
use Rattle.sums.specs.Sum.{count}
use Rattle.sums.proofs.CountLaws.{count-le, count_mono, count-subset-eq, count-full}
use Rattle.closure.specs.Closure.{iterate}

pub iterate-extends : (k : ℕ) (step : (ℕ → Bool) → (ℕ → Bool)) (S : ℕ → Bool) → ((T : ℕ → Bool) (v : ℕ) → T v ≡ true → step T v ≡ true)
    → (v : ℕ) → S v ≡ true → iterate k step S v ≡ true
iterate-extends zero step S more v p = p
iterate-extends (suc k) step S more v p = more (iterate k step S) v (iterate-extends k step S more v p)

pub iterate-into {ℓ} : (k : ℕ) (step : (ℕ → Bool) → (ℕ → Bool)) (S : ℕ → Bool) (P : (ℕ → Bool) → Type ℓ)
    → P S → ((T : ℕ → Bool) → P T → P (step T)) → P (iterate k step S)
iterate-into zero step S P base keep = base
iterate-into (suc k) step S P base keep = keep (iterate k step S) (iterate-into k step S P base keep)

module _ (m : ℕ) (step : (ℕ → Bool) → (ℕ → Bool)) (S : ℕ → Bool)
    (more : (T : ℕ → Bool) (v : ℕ) → v < m → T v ≡ true → step T v ≡ true)
    (local : (T U : ℕ → Bool) → ((v : ℕ) → v < m → T v ≡ U v) → (v : ℕ) → v < m → step T v ≡ step U v) where
  -- A round that adds nothing is followed by such rounds only; each other round adds one number at least, so there are at most m of them.
  fixed_or_counted : (k : ℕ) → ((v : ℕ) → v < m → step (iterate k step S) v ≡ iterate k step S v) ⊎ (k ≤ count m (iterate k step S))
  fixed_or_counted zero = inr (omega arith)
  fixed_or_counted (suc k) = elim (fixed_or_counted k) [
    | inl same ↦ inl (local (step (iterate k step S)) (iterate k step S) same)
    | inr h ↦ elim (lt-or-le (count m (iterate k step S)) (count m (step (iterate k step S)))) [
      | inl less ↦ inr (omega arith)
      | inr l ↦ inl (local (step (iterate k step S)) (iterate k step S) (λ v b. sym (count-subset-eq m (iterate k step S) (step (iterate k step S))
          (more (iterate k step S)) (omega (arith, count_mono m (iterate k step S) (step (iterate k step S)) (more (iterate k step S)))) v b)))
    ]
  ]

  pub iterate_fixed : (v : ℕ) → v < m → step (iterate m step S) v ≡ iterate m step S v
  iterate_fixed v b = elim (fixed_or_counted m) [
    | inl same ↦ same v b
    | inr h ↦ let p = count-full m (iterate m step S) (omega (arith, count-le m (iterate m step S))) v b in
        more (iterate m step S) v b p ∙ sym p
  ]
