-- Laws of a day's rocks and their two benches.
--     lowest-allowed, lowest-below    every job allows its lowest bench
--     rock_heavy, rock-choices        a rock is heavy and has two benches
--     low_below_high, high_below      lowest < highest < benches
--     low_allowed, high_allowed       both are allowed
--     allowed_end                     every allowed bench is one of the two
use Prim.Native.Nat.{ℕ, ◌<◌}
use mathlib.Core.Path.{◌≡◌}
use mathlib.Core.Logic.{◌⊎◌, inl, inr}
use mathlib.Core.Bool.{Bool, true, not, ◌&&◌}
use native.Mathlib.Omega.{arith}
use lib.Dec.{eqb, ltb}
use borrow.Author.Tests.{eqb-true, ne_eqb, ltb-true, lt-ltb}
use Rattle.bools.proofs.BoolLaws.{and_intro, and_left, and_right, not_intro_true}
use Rattle.bools.proofs.OrderLaws.{eq-or-ne}
use Rattle.sums.proofs.SearchLaws.{least_bound, least-holds}
use Rattle.sums.proofs.CountLaws.{count-remove, count-two, count-two_elim}
use Rattle.day.specs.Day.{Day, choices, heavy}
use Rattle.algorithm.specs.Rocks.{rock, lowest, highest}
use Rattle.algorithm.specs.SoundDay.{SoundDay}

module _ (d : Day) (sound : SoundDay d) (j : ℕ) (h : j < d.jobs) where
  pub lowest-below : lowest d j < d.benches
  unfolding lowest
  lowest-below = let (v, l, a) = sound.some_bench j h in omega (arith, least_bound d.benches (d.allows j) v a)

  pub lowest-allowed : d.allows j (lowest d j) ≡ true
  unfolding lowest
  lowest-allowed = least-holds d.benches (d.allows j) lowest-below

module _ (d : Day) (j : ℕ) (r : rock d j ≡ true) where
  pub rock-heavy : heavy d j ≡ true
  rock-heavy = and_left (heavy d j) (eqb (choices d j) 2) r

  pub rock-choices : choices d j ≡ 2
  rock-choices = eqb-true (choices d j) 2 (and_right (heavy d j) (eqb (choices d j) 2) r)

  abbrev later : ℕ → Bool
  later b = ltb (lowest d j) b && d.allows j b

  -- Of two allowed benches, the first is at least the lowest, so the second is behind it.
  two_benches : (lowest d j < d.benches) × (highest d j < d.benches)
  unfolding lowest highest
  two_benches =
      let (u, v, less, below, au, av) = count-two_elim d.benches (d.allows j) (omega (arith, rock-choices)) in
      let low = least_bound d.benches (d.allows j) u au in
      (omega arith, omega (arith, least_bound d.benches later v (and_intro (lt-ltb (lowest d j) v (omega arith)) av)))

  pub low_allowed : d.allows j (lowest d j) ≡ true
  unfolding lowest
  low_allowed = least-holds d.benches (d.allows j) two_benches.0

  highest-later : later (highest d j) ≡ true
  unfolding highest
  highest-later = least-holds d.benches (λ b. ltb (lowest d j) b && d.allows j b) two_benches.1

  pub high_allowed : d.allows j (highest d j) ≡ true
  high_allowed = and_right (ltb (lowest d j) (highest d j)) (d.allows j (highest d j)) highest-later

  pub low_below_high : lowest d j < highest d j
  low_below_high = ltb-true (lowest d j) (highest d j) (and_left (ltb (lowest d j) (highest d j)) (d.allows j (highest d j)) highest-later)

  pub high_below : highest d j < d.benches
  high_below = two_benches.1

  -- A third allowed bench would make three choices.
  pub allowed_end : (v : ℕ) → v < d.benches → d.allows j v ≡ true → (v ≡ lowest d j) ⊎ (v ≡ highest d j)
  allowed_end v l a = elim (eq-or-ne v (lowest d j)) [
    | inl e ↦ inl e
    | inr n ↦ elim (eq-or-ne v (highest d j)) [
      | inl e ↦ inr e
      | inr k ↦ absurd (omega (
        arith,
        rock-choices,
        count-remove d.benches (d.allows j) (lowest d j) two_benches.0 low_allowed,
        count-two d.benches (λ i. d.allows j i && not (eqb i (lowest d j))) v (highest d j) l high_below k
            (and_intro a (not_intro_true (ne_eqb v (lowest d j) n)))
            (and_intro high_allowed (not_intro_true (ne_eqb (highest d j) (lowest d j) (λ e. omega (arith, low_below_high))))),
      ))
    ]
  ]
