-- The exploration of every state of a run has the properties E1 to E9.
--     forced_laws          what the exploration asks of FORCED ORIENTATIONS, from the chain lemma
--     good-left, good-pebbles     what a good state has in common with the start
--     good_sound, good_facts, good_spread     the board of a good state is sound, its exploration has the properties, and its rocks can be
--                          spread, the same way for all states
--     reached_good         every state that the run reaches is good
--     reached-run          the run comes by every state that it reaches, and goes on from there with what is left of its budget
--     run_ends             Algorithm 2 ends within its budget
use Prim.Native.Nat.{ℕ, zero, suc, ◌+◌, ◌≤◌}
use mathlib.Core.Path.{◌≡◌, ◌∙◌}
use mathlib.Core.Bool.{true}
use native.Mathlib.Omega.{arith}
use Rattle.day.specs.Day.{Day}
use Rattle.algorithm.specs.Board.{Board}
use Rattle.algorithm.specs.Start.{State, start}
use Rattle.algorithm.specs.Run.{board_of, explored, can_move, next_state, turns, budget, run}
use Rattle.algorithm.specs.States.{Reached, at_start, by_move, RunFrom}
use Rattle.algorithm.specs.Properties.{SoundBoard, OneEach, Facts, Spread}
use Rattle.algorithm.specs.SoundDay.{SoundDay, Uncrowded}
use Rattle.algorithm.proofs.ForcedInterface.{ForcedLaws}
use Rattle.algorithm.proofs.ForcedLaws.{forced_call, fake_call, first_call_overloads}
use Rattle.algorithm.proofs.ExploredFacts.{explored_facts}
use Rattle.algorithm.proofs.BoardSound.{board_sound}
use Rattle.algorithm.proofs.ChainLemma.{one_each}
use Rattle.algorithm.proofs.SpreadLaws.{spread_of, spread}
use Rattle.algorithm.proofs.Moves.{Good}
use Rattle.algorithm.proofs.Budget.{TurnsEnd, next_good, turns_move, run-turns, potential_of, budget-enough, next_drops, turns-ends}
use Rattle.algorithm.proofs.GoodStart.{good_start}

pub forced_laws : (b : Board) → SoundBoard b → OneEach b → ForcedLaws b
forced_laws b ok each =
    record {
      call = λ dir p. let c = forced_call b ok dir p in (c.pointed, c.steps, c.stable);
      first_overloads = first_call_overloads b ok each;
      fake_keeps = λ dir p s v j hv hj t n. (fake_call b ok each dir p s v j hv hj t n).within;
    }

module _ (d : Day) (sound : SoundDay d) (fits : Uncrowded d) where
  pub good_sound : (s : State) → Good d s → SoundBoard (board_of d s)
  good_sound s good = board_sound d sound s good.left_kept good.pebble_allowed

  pub good_facts : (s : State) → Good d s → Facts (board_of d s) (explored d s)
  good_facts s good =
      explored_facts (board_of d s) (good_sound s good)
      (forced_laws (board_of d s) (good_sound s good) (one_each d sound fits s good.left_kept))

  pub good_spread : (s : State) → Good d s → Spread (board_of d s) (spread_of d)
  good_spread s good = spread d sound fits s good.left_kept

  pub reached_good : {m : ℕ} {s : State} → Reached d m s → Good d s
  reached_good (at_start short sparse) = good_start d sound
  reached_good (by_move {s = s} came can) = next_good d s (reached_good came) can

  -- The budget left covers the potential of the state, so that a move never finds it used up.
  abbrev Covered : ℕ → State → Type 0
  Covered m s = (r : RunFrom d m s) × (potential_of d s ≤ r.left)

  after_move : (m : ℕ) (s : State) → Good d s → can_move d s ≡ true → (k : ℕ) → m + k ≡ budget d → potential_of d s ≤ k → run d ≡ turns k d s m
      → Covered (suc m) (next_state d s)
  after_move m s good can zero all few from = absurd (omega (arith, next_drops d (spread_of d) good_sound good_facts good_spread s good can))
  after_move m s good can (suc k) all few from = (
    record { left = k; of_budget = omega arith; goes_on = from ∙ turns_move d s m k can },
    omega (arith, next_drops d (spread_of d) good_sound good_facts good_spread s good can),
  )

  reached_covered : {m : ℕ} {s : State} → Reached d m s → Covered m s
  reached_covered (at_start short sparse) =
      (record { left = budget d; of_budget = omega arith; goes_on = run-turns d short sparse }, budget-enough d (start d))
  reached_covered (by_move {m = m} {s = s} came can) =
      let (r, few) = reached_covered came in
      after_move m s (reached_good came) can r.left r.of_budget few r.goes_on

  pub reached-run : {m : ℕ} {s : State} → Reached d m s → RunFrom d m s
  reached-run came = (reached_covered came).0

  pub run_ends : Reached d 0 (start d) → TurnsEnd d
  run_ends = turns-ends d (spread_of d) good_sound good_facts good_spread (good_start d sound)
