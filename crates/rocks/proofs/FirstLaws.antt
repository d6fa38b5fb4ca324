-- The first number of which a test holds (RockArrays `first`).
--     first_is                  what a search finds is that number
--     first-some, first-none    so it is the least one, or there is none
use Prim.Native.Nat.{ℕ, ◌≤◌, ◌<◌}
use mathlib.Core.Path.{◌≡◌, ap, ◌∙◌}
use mathlib.Core.Bool.{Bool, true, false, cond}
use mathlib.Core.Logic.{inl, inr}
use native.Mathlib.Omega.{arith}
use lib.Dec.{ltb}
use borrow.Author.Tests.{lt-ltb, le-ltb}
use Rattle.std.specs.Prelude.{Option, Some, None, MatchOption}
use Rattle.bools.proofs.BoolLaws.{split, tests}
use Rattle.sums.specs.Search.{least}
use Rattle.sums.proofs.SearchLaws.{least-found, least-none}
use Rattle.rocks.specs.RockArrays.{first}

module _ (n : ℕ) (f : ℕ → Bool) where
  pub first_is : {r : Option ℕ}
      → MatchOption r ((k : ℕ) → 0 ≤ k → k < n → f k ≡ false)
      (λ i. (0 ≤ i) × (i < n) × (f i ≡ true) × ((k : ℕ) → 0 ≤ k → k < i → f k ≡ false))
      → r ≡ first n f
  unfolding first
  first_is {r = None} before =
      let e : least n f ≡ n = least-none n f (λ i l. before i (omega arith) l) in rw (e, le-ltb n n (omega arith))
  first_is {r = Some i} (low, below, here, before) =
      let e : least n f ≡ i = least-found n f i below here (λ k l. before k (omega arith) l) in
      rw (e, lt-ltb i n below)

  pub first-some : {r : Option ℕ} {v : ℕ} → r ≡ first n f → r ≡ Some v → (v ≡ least n f) × (v < n)
  unfolding first
  first-some {r} {v} e p = elim (split (ltb (least n f) n)) [
    | inl t ↦
        let found : r ≡ Some (least n f) = e ∙ ap (λ (b : Bool). cond b (Some (least n f)) None) t in
        let same : v ≡ least n f = cc in
        (same, omega (tests, same))
    | inr t ↦
        let none : r ≡ None = e ∙ ap (λ (b : Bool). cond b (Some (least n f)) None) t in
        absurd (cc)
  ]

  pub first-none : {r : Option ℕ} → r ≡ first n f → r ≡ None → n ≤ least n f
  unfolding first
  first-none {r} e p = elim (split (ltb (least n f) n)) [
    | inl t ↦
        let found : r ≡ Some (least n f) = e ∙ ap (λ (b : Bool). cond b (Some (least n f)) None) t in
        absurd (cc)
    | inr t ↦ omega tests
  ]
