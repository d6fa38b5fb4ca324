-- Loads under two assignments, of any day.
--     load_cong       with each job on the same bench, every bench has the same load
--     load_checks     so it has where only jobs of 0 minutes are on other benches
use Prim.Native.Nat.{ℕ, ◌+◌, ◌<◌}
use native.Mathlib.Omega.{arith}
use mathlib.Core.Path.{◌≡◌, ap}
use mathlib.Core.Bool.{false}
use mathlib.Core.Logic.{inl, inr}
use lib.Dec.{eqb}
use Rattle.bools.proofs.BoolLaws.{split}
use Rattle.sums.specs.Sum.{on}
use Rattle.sums.proofs.SumLaws.{on-le, sum_cong}
use Rattle.day.specs.Day.{Day, check_only, load_of}
use Rattle.day.proofs.CheckOnly.{no_minutes}

module _ (d : Day) (a b : ℕ → ℕ) where
  pub load_checks : ((j : ℕ) → j < d.jobs → check_only d j ≡ false → a j ≡ b j) → (v : ℕ) → load_of d a v ≡ load_of d b v
  load_checks same v =
      ap (λ (n : ℕ). d.booked v + n)
      (sum_cong d.jobs (λ j. on (eqb (a j) v) (d.minutes j)) (λ j. on (eqb (b j) v) (d.minutes j))
      (λ j l. elim (split (check_only d j)) [
        | inl check ↦
            let none = no_minutes d j check in
            omega (arith, on-le (eqb (a j) v) (d.minutes j), on-le (eqb (b j) v) (d.minutes j), none)
        | inr above ↦ rw (same j l above)
      ]))

  pub load_cong : ((j : ℕ) → j < d.jobs → a j ≡ b j) → (v : ℕ) → load_of d a v ≡ load_of d b v
  load_cong same = load_checks (λ j l above. same j l)
