-- The tests at a rock: one law for each way in which the functions return.
--     end_below                      an end of a rock is below what both its ends are below
--     lowest_none, lowest_more       the lowest end of no rock, and of one rock more
use Prim.Native.Nat.{ℕ, ◌+◌, ◌<◌}
use mathlib.Core.Path.{◌≡◌, refl}
use mathlib.Core.Bool.{Bool, true}
use mathlib.Core.Logic.{inl, inr}
use mathlib.Core.List.{List}
use native.Mathlib.Omega.{arith}
use lib.ListN.{get_or}
use lib.Dec.{eqb}
use borrow.Author.Tests.{eq-eqb, ne_eqb, eqb-true}
use native.Mathlib.Numerals.{add-one}
use Rattle.bools.proofs.BoolLaws.{or_elim}
use Rattle.rocks.specs.RockArrays.{lowest_end, touches_at, other_at}
use Rattle.arrays.specs.Arrays.{lower_of}

pub other_at_low : (low high : List ℕ) (r v : ℕ) → v ≡ get_or low r 0 → get_or high r 0 ≡ other_at low high r v
other_at_low low high r v e = rw (eq-eqb v (get_or low r 0) e)

pub other_at_high : (low high : List ℕ) (r v : ℕ) → (v ≡ get_or low r 0 → ⊥) → get_or low r 0 ≡ other_at low high r v
other_at_high low high r v ne = rw (ne_eqb v (get_or low r 0) ne)

pub end_below : (low high : List ℕ) (m r v : ℕ) → (get_or low r 0 < m) × (get_or high r 0 < m) → touches_at low high r v ≡ true → v < m
end_below low high m r v ends t = elim (or_elim (eqb v (get_or low r 0)) (eqb v (get_or high r 0)) t) [
  | inl p ↦ omega (arith, eqb-true v (get_or low r 0) p, ends.0)
  | inr p ↦ omega (arith, eqb-true v (get_or high r 0) p, ends.1)
]

-- ── one more rock of a search ──

pub lowest_none : (m : ℕ) (low high : List ℕ) (P : ℕ → ℕ → Bool) → m ≡ lowest_end m 0 low high P
unfolding lowest_end
lowest_none m low high P = refl

pub lowest_more : (m r : ℕ) (low high : List ℕ) (P : ℕ → ℕ → Bool) {v lo hi first second : ℕ} {c d : Bool}
    → v ≡ lowest_end m r low high P → lo ≡ get_or low r 0 → c ≡ P r lo → first ≡ lower_of c lo v
    → hi ≡ get_or high r 0 → d ≡ P r hi → second ≡ lower_of d hi first → second ≡ lowest_end m (r + 1) low high P
unfolding lowest_end
lowest_more m r low high P e a p f b q s = rw add-one (cc)
