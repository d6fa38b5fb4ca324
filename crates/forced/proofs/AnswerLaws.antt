-- What a search for the first number answers (RockArrays `first`), where it goes through the numbers below 64.
--     first_at, first_past     the answer, from the least number
--     some_first, none_first   the least number, from the answer
--     first_cong               two tests that agree
use Rattle.std.proofs.Common.{Some, None}
use Prim.Native.Nat.{ℕ, ◌≤◌, ◌<◌}
use mathlib.Core.Path.{◌≡◌, refl, sym, ap, ◌∙◌}
use mathlib.Core.Bool.{Bool, cond}
use native.Mathlib.Omega.{arith}
use lib.Dec.{ltb}
use borrow.Author.Tests.{lt-ltb, le-ltb}
use Rattle.sums.specs.Search.{least}
use Rattle.sums.proofs.SearchLaws.{least_cong}
use Rattle.rocks.specs.RockArrays.{first}
use Rattle.rocks.proofs.FirstLaws.{first-some, first-none}

module _ (f : ℕ → Bool) where
  pub first_at : (v : ℕ) → v ≡ least 64 f → v < 64 → Some v ≡ first 64 f
  unfolding first
  first_at v e h =
      ap Some e ∙ sym (ap (λ (b : Bool). cond b (Some (least 64 f)) None) (lt-ltb (least 64 f) 64 (omega (arith, e))))

  pub first_past : 64 ≤ least 64 f → None ≡ first 64 f
  unfolding first
  first_past h = sym (ap (λ (b : Bool). cond b (Some (least 64 f)) None) (le-ltb (least 64 f) 64 h))

  pub some_first : (v : ℕ) → Some v ≡ first 64 f → (v ≡ least 64 f) × (v < 64)
  some_first v q = first-some 64 f q refl

  pub none_first : None ≡ first 64 f → 64 ≤ least 64 f
  none_first q = first-none 64 f q refl

  pub first_cong : (g : ℕ → Bool) → ((i : ℕ) → i < 64 → f i ≡ g i) → first 64 f ≡ first 64 g
  unfolding first
  first_cong g same = ap (λ (v : ℕ). cond (ltb v 64) (Some v) None) (least_cong 64 f g same)
