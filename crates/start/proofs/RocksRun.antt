-- The arrays of the rocks that are left, gathered from their marks.
--     left_count, left_jobs, left_lows, left_highs     how many rocks, their jobs, and their ends
use Prim.Native.Nat.{ℕ, ◌≤◌, ◌<◌}
use mathlib.Core.Path.{◌≡◌, sym, ap, ◌∙◌}
use mathlib.Core.Bool.{Bool, false}
use mathlib.Core.List.{List}
use native.Mathlib.Omega.{arith}
use lib.ListN.{length, get_or}
use Rattle.sums.specs.Sum.{count}
use Rattle.sums.specs.Members.{members}
use Rattle.sums.proofs.CountLaws.{count_cong}
use Rattle.sums.proofs.MembersLaws.{members_cong}
use Rattle.day.specs.Day.{Day}
use Rattle.algorithm.specs.Rocks.{lowest, highest}
use Rattle.algorithm.specs.Start.{State}
use Rattle.algorithm.specs.Run.{board_of}
use Rattle.rocks.specs.BoardArrays.{rocks_of, rock_at}
use Rattle.algorithm.specs.SoundDay.{SoundDay}
use Rattle.sets.specs.Sets.{lowest_of, highest_of}
use Rattle.arrays.specs.Arrays.{filled}
use Rattle.start.specs.StartArrays.{Fields, Placed}
use Rattle.arrays.proofs.FilledLaws.{get_or-filled}
use Rattle.start.proofs.StartRun.{gathered_ends}

module _ (d : Day) (jobs : ℕ) (minutes allowed : List ℕ) (F : Fields d jobs minutes allowed) (sound : SoundDay d) (s : State) (left : List Bool) (place : List ℕ)
    (S : Placed d s left place) where
  abbrev marks : ℕ → Bool
  marks j = get_or left j false

  marks-are : (j : ℕ) → j < jobs → marks j ≡ get_or s.left j false
  marks-are j h = S.lefts j (omega (arith, F.jobs_are))

  pub left_count : count jobs marks ≡ rocks_of (board_of d s)
  left_count = count_cong jobs marks (λ j. get_or s.left j false) marks-are ∙ ap (λ (k : ℕ). count k (λ j. get_or s.left j false)) F.jobs_are

  left_rock : (r : ℕ) → get_or (members jobs marks) r 0 ≡ rock_at (board_of d s) r
  left_rock r =
      ap (λ (xs : List ℕ). get_or xs r 0)
      (members_cong jobs marks (λ j. get_or s.left j false) marks-are ∙ ap (λ (k : ℕ). members k (λ j. get_or s.left j false)) F.jobs_are)

  module _ (k : ℕ) (e : k ≡ count jobs marks) (r : ℕ) (h : r < rocks_of (board_of d s)) where
    pub left_jobs : (job₀ : List ℕ) {job : List ℕ} → rocks_of (board_of d s) ≤ length job₀ → job ≡ filled k (λ i. get_or (members jobs marks) i 0) job₀
        → get_or job r 0 ≡ rock_at (board_of d s) r
    left_jobs job₀ room is =
        ap (λ (xs : List ℕ). get_or xs r 0) is
        ∙ get_or-filled (λ i. get_or (members jobs marks) i 0) k job₀ r 0 (omega (arith, e, left_count)) (omega arith) ∙ left_rock r

    ends : (lowest_of (get_or allowed (get_or (members jobs marks) r 0) 0) ≡ lowest d (get_or (members jobs marks) r 0))
        × (highest_of (get_or allowed (get_or (members jobs marks) r 0) 0) ≡ highest d (get_or (members jobs marks) r 0))
    ends = gathered_ends d jobs minutes allowed F sound left (λ j l p. S.left_rock j l (sym (S.lefts j l) ∙ p)) r (omega (arith, left_count))

    pub left_lows : (low₀ : List ℕ) {low : List ℕ} → rocks_of (board_of d s) ≤ length low₀
        → low ≡ filled k (λ i. lowest_of (get_or allowed (get_or (members jobs marks) i 0) 0)) low₀ → get_or low r 0 ≡ lowest d (rock_at (board_of d s) r)
    left_lows low₀ room is =
        ap (λ (xs : List ℕ). get_or xs r 0) is
        ∙ get_or-filled (λ i. lowest_of (get_or allowed (get_or (members jobs marks) i 0) 0)) k low₀ r 0 (omega (arith, e, left_count)) (omega arith)
        ∙ ends.0 ∙ ap (lowest d) (left_rock r)

    pub left_highs : (high₀ : List ℕ) {high : List ℕ} → rocks_of (board_of d s) ≤ length high₀
        → high ≡ filled k (λ i. highest_of (get_or allowed (get_or (members jobs marks) i 0) 0)) high₀ → get_or high r 0 ≡ highest d (rock_at (board_of d s) r)
    left_highs high₀ room is =
        ap (λ (xs : List ℕ). get_or xs r 0) is
        ∙ get_or-filled (λ i. highest_of (get_or allowed (get_or (members jobs marks) i 0) 0)) k high₀ r 0 (omega (arith, e, left_count)) (omega arith)
        ∙ ends.1 ∙ ap (highest d) (left_rock r)
