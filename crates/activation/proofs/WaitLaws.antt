-- The benches of the conflict set that are not activated yet.
--     within_of, within_now     a round is one of the exploration where an equal one is, and where it is the round at hand
--     waits_left                who waits after some of those who waited were activated
use Prim.Native.Nat.{ℕ, ◌≤◌, ◌<◌}
use mathlib.Core.Path.{◌≡◌, sym, ap, ◌∙◌}
use mathlib.Core.Bool.{true, cond, not, ◌&&◌}
use mathlib.Core.Logic.{inl, inr}
use mathlib.Core.List.{List}
use native.Mathlib.Omega.{arith}
use lib.Dec.{leb}
use lib.ListN.{length, get_or}
use borrow.Author.Tests.{le-leb}
use Rattle.bools.proofs.BoolLaws.{split, clash, and_intro, not_intro_true, cond-true, cond-false}
use Rattle.bits.specs.Bits.{is_set}
use Rattle.rocks.specs.declared.rocks.Limits.{Limits}
use Rattle.rocks.specs.RockArrays.{within_at}
use Rattle.activation.specs.ActivationArrays.{Waits}

pub within_of : (m : ℕ) (xs ys : List ℕ) (v : ℕ) → get_or xs v 0 ≡ get_or ys v 0 → within_at m xs v ≡ within_at m ys v
within_of m xs ys v e = ap (λ (k : ℕ). leb k m) e

pub within_now : (m i : ℕ) (xs : List ℕ) (v : ℕ) → i ≤ m → get_or xs v 0 ≡ i → within_at m xs v ≡ true
within_now m i xs v h e = ap (λ (k : ℕ). leb k m) e ∙ le-leb i m h

-- Who waits after some of those who waited got round i.
pub waits_left : (n : Limits) (i : ℕ) (joined level level' : List ℕ) (asked left : ℕ) → i ≤ n.benches → n.benches ≤ 64 → n.benches ≤ length level
    → ((v : ℕ) → v < length level → v < 64 → get_or level' v 0 ≡ cond (is_set 64 asked v && not (is_set 64 left v)) i (get_or level v 0))
    → Waits n joined level asked → Waits n joined level' left
waits_left n i joined level level' asked left in-time few room step W v h wj wl = elim (split (is_set 64 asked v && not (is_set 64 left v))) [
  | inl p ↦
      clash (within_now n.benches i level' v in-time (step v (omega arith) (omega arith) ∙ cond-true i (get_or level v 0) p)) wl
  | inr p ↦
      let same = within_of n.benches level' level v (step v (omega arith) (omega arith) ∙ cond-false i (get_or level v 0) p) in
      let asks = W v h wj (sym same ∙ wl) in
      elim (split (is_set 64 left v)) [ inl q ↦ q | inr q ↦ clash (and_intro asks (not_intro_true q)) p ]
]
