-- The rocks of a day, in arrays.
--     day-rock-below, day-rock-holds     the job of a rock
--     touches_are                        a rock's ends are the benches that its job allows
use Prim.Native.Nat.{ℕ, ◌<◌}
use mathlib.Core.Path.{◌≡◌, sym, subst}
use mathlib.Core.Bool.{true, ◌||◌}
use mathlib.Core.Logic.{⊎_elim}
use mathlib.Core.List.{List}
use lib.Dec.{eqb}
use borrow.Author.Tests.{eq-eqb, eqb-true}
use Rattle.bools.proofs.BoolLaws.{bool_ext, or_left, or_right, or_elim}
use Rattle.sums.proofs.MembersLaws.{member_below, member_holds}
use Rattle.rocks.specs.declared.rocks.Limits.{Limits}
use Rattle.day.specs.Day.{Day}
use Rattle.algorithm.specs.Rocks.{rock, lowest, highest}
use Rattle.rocks.specs.RockArrays.{touches_at}
use Rattle.rocks.specs.DayArrays.{day_rocks, day_rock, DayRocks}
use Rattle.algorithm.proofs.RockLaws.{low_allowed, high_allowed, allowed_end}

-- ── the day's rocks ──

module _ (d : Day) (n : Limits) (low high : List ℕ) (R : DayRocks d n low high) where
  pub day-rock-below : (r : ℕ) → r < day_rocks d → day_rock d r < d.jobs
  day-rock-below r h = member_below d.jobs (rock d) r 0 h

  pub day-rock-holds : (r : ℕ) → r < day_rocks d → rock d (day_rock d r) ≡ true
  day-rock-holds r h = member_holds d.jobs (rock d) r 0 h

  pub touches_are : (r v : ℕ) → r < day_rocks d → v < d.benches → touches_at low high r v ≡ d.allows (day_rock d r) v
  touches_are r v h l =
      let j = day_rock d r in
      let rocky = day-rock-holds r h in
      rw (R.lows r h, R.highs r h)
      (bool_ext (eqb v (lowest d j) || eqb v (highest d j)) (d.allows j v)
      (λ p. ⊎_elim
      (λ q. subst (λ (u : ℕ). d.allows j u ≡ true) (sym (eqb-true v (lowest d j) q)) (low_allowed d j rocky))
      (λ q. subst (λ (u : ℕ). d.allows j u ≡ true) (sym (eqb-true v (highest d j) q)) (high_allowed d j rocky))
      (or_elim (eqb v (lowest d j)) (eqb v (highest d j)) p))
      (λ p. ⊎_elim
      (λ q. or_left (eqb v (highest d j)) (eq-eqb v (lowest d j) q))
      (λ q. or_right (eqb v (lowest d j)) (eq-eqb v (highest d j) q))
      (allowed_end d j rocky v l p)))
