-- Why a Type A bench opens its round.
--     Opening b dir ls v      the bench is overloaded and has level 0, or a pebble of a lower level may go to it
--     opening_kept            later directions and levels keep this
--     type_a-opening          it holds of the Type A benches of a round
use Prim.Native.Nat.{ℕ, zero, suc, ◌≤◌, ◌<◌}
use mathlib.Core.Path.{◌≡◌, ◌∙◌}
use mathlib.Core.Logic.{◌⊎◌, inl, inr, ⊎_elim}
use mathlib.Core.Bool.{Bool, true, not, ◌&&◌}
use mathlib.Core.List.{List}
use native.Mathlib.Omega.{arith}
use lib.Dec.{eqb}
use borrow.Author.Tests.{eqb-true, ltb-true}
use Rattle.bools.proofs.BoolLaws.{and_left, and_right}
use Rattle.sums.proofs.SearchLaws.{any_elim}
use Rattle.algorithm.specs.Board.{Board, Directions, load}
use Rattle.algorithm.specs.Explore.{Explored, round_of, activated, in_reach, type_a, opened_levels}
use Rattle.algorithm.specs.Properties.{SoundBoard}
use Rattle.algorithm.proofs.GrowthLaws.{Grows}
use Rattle.algorithm.proofs.ForcedInterface.{ForcedLaws}
use Rattle.algorithm.proofs.Keeping.{keeps-load, Marks, marks_old}
use Rattle.algorithm.proofs.RoundLaws.{Between, opened_level_marks, type_a-level}

abbrev pub ByPebble : Board → List ℕ → ℕ → Type 0
ByPebble b ls v = (j : ℕ) × (j < b.jobs) × (b.pebble j ≡ true) × (b.allows j v ≡ true) × (round_of b ls (b.place j) < round_of b ls v)

abbrev pub Opening : Board → Directions → List ℕ → ℕ → Type 0
Opening b dir ls v = ((round_of b ls v ≡ 0) × (b.bound < load b dir v)) ⊎ ByPebble b ls v

module _ (b : Board) (ok : SoundBoard b) where
  pub opening_kept : {l : ℕ} {dir later : Directions} {ls ms : List ℕ} → Grows dir later → Marks b l ls ms
      → (v : ℕ) → v < b.benches → round_of b ls v ≤ b.benches → Opening b dir ls v → Opening b later ms v
  opening_kept keeps levels v h f cause =
      let same = marks_old levels v h f in
      ⊎_elim
      (λ c. inl (same ∙ c.0, omega (arith, keeps-load b keeps v)))
      (λ c.
      let place-below = ok.allowed_below c.0 (b.place c.0) c.1 (ok.pebble_allowed c.0 c.1 c.2) in
      let there = marks_old levels (b.place c.0) place-below (omega arith) in
      inr (c.0, c.1, c.2, c.3, omega arith))
      cause

  -- Round 0 opens with overloaded benches, a later one with benches in reach of the level before.
  pub type_a-opening : (laws : ForcedLaws b) (k : ℕ) (x : Explored) → Between b k x
      → (v : ℕ) → v < b.benches → type_a b k x v ≡ true → Opening b x.dir (opened_levels b k x) v
  type_a-opening laws zero x between v h t = inl (type_a-level b 0 x v h t, ltb-true b.bound (load b x.dir v) t)
  type_a-opening laws (suc k) x between v h t =
      let test : ℕ → Bool = λ j. eqb (suc (round_of b x.level (b.place j))) (suc k) in
      let (j, hj, p) = any_elim b.jobs (λ j. b.pebble j && b.allows j v && eqb (suc (round_of b x.level (b.place j))) (suc k))
      (and_right (not (activated b x v)) (in_reach b (suc k) x.level v) t)
      in
      let both = and_left (b.pebble j && b.allows j v) (test j) p in
      let pebble = and_left (b.pebble j) (b.allows j v) both in
      let level = eqb-true (suc (round_of b x.level (b.place j))) (suc k) (and_right (b.pebble j && b.allows j v) (test j) p) in
      let place-below = ok.allowed_below j (b.place j) hj (ok.pebble_allowed j hj pebble) in
      let there = marks_old (opened_level_marks b ok laws (suc k) x between) (b.place j) place-below (omega (arith, between.in_time)) in
      inr (j, hj, pebble, and_right (b.pebble j) (b.allows j v) both, omega (arith, type_a-level b (suc k) x v h t))
