-- Places as bytes, and the choices of the jobs as a table.
--     start-below               every job starts on a bench of the day
--     placed_copied             a copy of the places of all jobs shows the same state
--     chosen                    the table of the choices
use Prim.Native.Nat.{ℕ, ◌%◌, ◌≤◌, ◌<◌}
use mathlib.Core.Path.{◌≡◌, sym, ap, subst, ◌∙◌}
use mathlib.Core.Bool.{Bool, false, cond}
use mathlib.Core.Logic.{inl, inr}
use mathlib.Core.List.{List}
use native.Mathlib.Omega.{arith}
use native.Mathlib.Nat.{mod-eq_of_lt}
use lib.ListN.{length, get_or, replicate, length-replicate}
use Rattle.bools.proofs.BoolLaws.{split}
use Rattle.day.specs.Day.{Day}
use Rattle.algorithm.specs.Rocks.{rock, lowest}
use Rattle.algorithm.specs.SoundDay.{SoundDay}
use Rattle.algorithm.specs.Start.{State, start}
use Rattle.algorithm.proofs.Peeling.{start-peeled}
use Rattle.algorithm.proofs.RockLaws.{lowest-below}
use Rattle.arrays.specs.Arrays.{filled}
use Rattle.start.specs.StartArrays.{Placed}
use Rattle.push.specs.KeptArrays.{Chosen}
use Rattle.arrays.proofs.FilledLaws.{length-filled, get_or-filled}

pub start-below : (d : Day) → SoundDay d → (j : ℕ) → j < d.jobs → get_or (start d).place j 0 < d.benches
start-below d sound j h =
    let P = start-peeled d sound in
    let on-lowest : get_or (start d).place j 0 ≡ lowest d j → get_or (start d).place j 0 < d.benches =
    λ e. subst (λ (k : ℕ). k < d.benches) (sym e) (lowest-below d sound j h) in
    elim (split (rock d j)) [
      | inr light ↦ on-lowest (P.unplaced j h (inl light))
      | inl is ↦ elim (split (get_or (start d).left j false)) [
        | inl left ↦ on-lowest (P.unplaced j h (inr left))
        | inr peeled ↦ sound.allowed_below j _ (P.peeled_allowed j h is peeled)
      ]
    ]

module _ (jobs : ℕ) (place place₀ : List ℕ) (room : jobs ≤ length place₀)
    (small : (j : ℕ) → j < jobs → get_or place j 0 < 256) {place' : List ℕ}
    (e : place' ≡ filled jobs (λ i. get_or place i 0 % 256) place₀) where
  copied_room : length place' ≡ length place₀
  copied_room = ap length e ∙ length-filled (λ i. get_or place i 0 % 256) jobs place₀

  copied_entry : (j : ℕ) → j < jobs → get_or place' j 0 ≡ get_or place j 0
  copied_entry j h = ap (λ (xs : List ℕ). get_or xs j 0) e
      ∙ get_or-filled (λ i. get_or place i 0 % 256) jobs place₀ j 0 h (omega arith) ∙ mod-eq_of_lt (small j h)

  pub placed_copied : (d : Day) (s : State) (left : List Bool) → jobs ≡ d.jobs → Placed d s left place → Placed d s left place'
  placed_copied d s left all P =
      record {
        left_length = P.left_length;
        place_length = P.place_length;
        left_rock = P.left_rock;
        left_room = P.left_room;
        place_room = omega (arith, copied_room);
        lefts = P.lefts;
        places = λ j h. copied_entry j (omega arith) ∙ P.places j h;
      }

pub chosen : (jobs : ℕ) (pebble : List Bool) (allowed : List ℕ) {choice : List ℕ} → jobs ≤ 512
    → choice ≡ filled jobs (λ j. cond (get_or pebble j false) (get_or allowed j 0) 0) (replicate 512 0) → Chosen jobs pebble allowed choice
chosen jobs pebble allowed few e j h =
    ap (λ (xs : List ℕ). get_or xs j 0) e
    ∙ get_or-filled (λ i. cond (get_or pebble i false) (get_or allowed i 0) 0) jobs (replicate 512 0) j 0 h (omega (arith, length-replicate {A = ℕ} 512 0))
