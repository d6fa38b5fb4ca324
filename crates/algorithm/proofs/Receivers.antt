-- Which benches received a rock since a first moment.
--     received-direct                     a bench that received: before, or this rock
--     received_keeps                      what was received stays received
--     direct-not-neutral, direct-directed, direct-neutral-before     neutral rocks after one more was directed
--     Single b first dir Y                all receivers are in Y, and none received two
--     single_none, single_step            it holds at first; and it goes on, if the next receiver is new
--     sender, sender-below, chain_pointed     the first bench of a chain; its rocks are directed to ends
use Prim.Native.Nat.{ℕ, ◌<◌}
use mathlib.Core.Path.{◌≡◌, sym, ◌∙◌, subst}
use mathlib.Core.Logic.{◌⊎◌, inl, inr, ◌≢◌}
use mathlib.Core.Bool.{Bool, true, false}
use native.Mathlib.Omega.{arith}
use Rattle.bools.proofs.BoolLaws.{split, clash}
use Rattle.bools.proofs.OrderLaws.{eq-or-ne}
use Rattle.algorithm.specs.Board.{Board, Directions, other, neutral, towards}
use Rattle.algorithm.specs.Forced.{direct}
use Rattle.algorithm.specs.Properties.{SoundBoard, Pointed, Received, Chain, begins, goes_on}
use Rattle.algorithm.proofs.BoardLaws.{neutral-directed, towards-unique, direct-towards, direct-neutral, direct-towards-rest, direct-keeps, pointed-direct}

module _ (b : Board) (first dir : Directions) (pointed : Pointed b dir) (v j : ℕ) (h : j < b.jobs) where
  pub received-direct : (x e : ℕ) → Received b first (direct b dir v j) x e
      → ((e ≡ j) × (x ≡ other b j v)) ⊎ ((e ≢ j) × Received b first dir x e)
  received-direct x e (he, t, n, w) = elim (eq-or-ne e j) [
    | inl q ↦ inl (
      q,
      towards-unique (direct b dir v j) j x (other b j v) (subst (λ (k : ℕ). towards (direct b dir v j) k x ≡ true) q w)
          (direct-towards b dir v j (omega (arith, pointed.one_to_a_job))),
    )
    | inr ne ↦ inr (ne, (he, t, n, sym (direct-towards-rest b dir v j e x ne) ∙ w))
  ]

  pub received_keeps : neutral dir j ≡ true → (x e : ℕ) → Received b first dir x e → Received b first (direct b dir v j) x e
  received_keeps n x e (he, t, f, w) = (he, t, f, direct-keeps b dir v j e x n w)

  pub direct-not-neutral : neutral (direct b dir v j) j ≡ false
  direct-not-neutral = elim (split (neutral (direct b dir v j) j)) [
    | inl p ↦ absurd (neutral-directed (direct b dir v j) j (other b j v) p (direct-towards b dir v j (omega (arith, pointed.one_to_a_job))))
    | inr p ↦ p
  ]

  -- A rock that was directed stays directed.
  pub direct-directed : (i : ℕ) → neutral dir i ≡ false → neutral (direct b dir v j) i ≡ false
  direct-directed i n = elim (eq-or-ne i j) [
    | inl e ↦ subst (λ (k : ℕ). neutral (direct b dir v j) k ≡ false) (sym e) direct-not-neutral
    | inr ne ↦ direct-neutral b dir v j i ne ∙ n
  ]

  pub direct-neutral-before : (i : ℕ) → neutral (direct b dir v j) i ≡ true → (i ≢ j) × (neutral dir i ≡ true)
  direct-neutral-before i n = elim (eq-or-ne i j) [
    | inl e ↦ clash (subst (λ (k : ℕ). neutral (direct b dir v j) k ≡ true) e n) direct-not-neutral
    | inr ne ↦ (ne, sym (direct-neutral b dir v j i ne) ∙ n)
  ]

-- ── at most one each ──

pub record Single (b : Board) (first dir : Directions) (Y : ℕ → Bool) : Type 0 where
  pub receivers : (x e : ℕ) → Received b first dir x e → Y x ≡ true
  pub once : (x e f : ℕ) → Received b first dir x e → Received b first dir x f → e ≡ f

pub single_none : (b : Board) (first : Directions) (Y : ℕ → Bool) → Single b first first Y
single_none b first Y =
    record {
      receivers = λ x e (he, t, n, w). absurd (neutral-directed first e x n w);
      once = λ x e f (he, t, n, w) r. absurd (neutral-directed first e x n w);
    }

-- A bench outside Y has received nothing.
pub single_step : (b : Board) (first dir : Directions) (Y Y' : ℕ → Bool) → Pointed b dir → (v j : ℕ) → j < b.jobs
    → Single b first dir Y → Y (other b j v) ≡ false → ((x : ℕ) → Y x ≡ true → Y' x ≡ true) → Y' (other b j v) ≡ true
    → Single b first (direct b dir v j) Y'
single_step b first dir Y Y' pointed v j h s new more here =
    record {
      receivers = λ x e r. elim (received-direct b first dir pointed v j h x e r) [
        | inl (q, at) ↦ subst (λ (k : ℕ). Y' k ≡ true) (sym at) here
        | inr (ne, r') ↦ more x (s.receivers x e r')
      ];
      once = λ x e f r t. elim (received-direct b first dir pointed v j h x e r) [
        | inl (q, at) ↦ elim (received-direct b first dir pointed v j h x f t) [
          | inl (p, _) ↦ q ∙ sym p
          | inr (ne, t') ↦ clash (s.receivers x f t') (subst (λ (k : ℕ). Y k ≡ false) (sym at) new)
        ]
        | inr (ne, r') ↦ elim (received-direct b first dir pointed v j h x f t) [
          | inl (p, at) ↦ clash (s.receivers x e r') (subst (λ (k : ℕ). Y k ≡ false) (sym at) new)
          | inr (_, t') ↦ s.once x e f r' t'
        ]
      ];
    }

-- ── chains ──

unfoldable pub sender : {b : Board} {first dir : Directions} → Chain b first dir → ℕ
sender (begins v j hv h t n) = v
sender (goes_on c v j e hv h t n r) = sender c

pub sender-below : {b : Board} {first dir : Directions} (c : Chain b first dir) → sender c < b.benches
unfolding sender
sender-below (begins v j hv h t n) = hv
sender-below (goes_on c v j e hv h t n r) = sender-below c

pub chain_pointed : {b : Board} {first dir : Directions} → SoundBoard b → Pointed b first → Chain b first dir → Pointed b dir
chain_pointed {b} {first} ok pointed (begins v j hv h t n) = pointed-direct b ok first pointed v j h t
chain_pointed {b} ok pointed (goes_on {dir} c v j e hv h t n r) = pointed-direct b ok dir (chain_pointed ok pointed c) v j h t
