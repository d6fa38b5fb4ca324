-- The budget of the run is never used up: it ends where no move can be made.
--     next_good            a state stays good with the next move
--     turns-spent, turns_move, turns-stop     a turn: with no fuel left, with a move, with none
--     run_long, run-crowded, run-turns     a run with a long job; with a crowded component; else it is its turns
--     moves_of              the moves that an answer states
--     answer_moves, turns-moves     they are those made before, and at most the fuel more
--     moves_bound          a run makes at most as many moves as its budget
--     potential_of d s     the potential of a state
--     budget-enough        the potential of a state is at most the budget
--     next_drops           each move lowers the potential
--     TurnsEnd d           the run's turns end at a state that it reaches and in which no move can be made, within the budget
--     turns-ends           they do, if the start is good
use Prim.Native.Nat.{ℕ, zero, suc, ◌+◌, ◌≤◌, ◌<◌}
use mathlib.Core.Path.{◌≡◌, refl, ◌∙◌}
use mathlib.Core.Logic.{inl, inr, ⊎_elim}
use mathlib.Core.Bool.{true, false}
use lib.Dec.{ltb}
use native.Mathlib.Omega.{arith}
use Rattle.bools.proofs.BoolLaws.{split}
use Rattle.day.specs.Day.{Day, long_job}
use Rattle.algorithm.specs.Push.{push_job, push_bench}
use Rattle.algorithm.specs.Start.{State, start, component, crowded_bench}
use Rattle.algorithm.specs.Run.{board_of, Outcome, planned, long, blocked, explored, congested, can_move, next_state, answer_at, turns, budget, run}
use Rattle.algorithm.specs.States.{Reached, by_move}
use Rattle.algorithm.specs.Properties.{SoundBoard, Spread, Facts}
use Rattle.algorithm.proofs.PushLaws.{push_allowed}
use Rattle.algorithm.proofs.Levels.{levels_kept}
use Rattle.algorithm.proofs.Potential.{potential, potential_bound, potential-drops}
use Rattle.algorithm.proofs.Moves.{Good, board-moved, good-moved, push_found}

pub next_good : (d : Day) (s : State) → Good d s → can_move d s ≡ true → Good d (next_state d s)
next_good d s good can =
    let a = push_job (board_of d s) (explored d s) in
    let v = push_bench (board_of d s) (explored d s) in
    let found = push_found d s can in
    let push = push_allowed (board_of d s) (explored d s) a v found.allowed in
    good-moved d s a v found.job_below good push.pebble push.allowed

-- ── one turn ──

module _ (d : Day) (s : State) (m : ℕ) where
  pub turns-spent : turns 0 d s m ≡ answer_at d s m
  unfolding turns
  turns-spent = refl

  pub turns_move : (k : ℕ) → can_move d s ≡ true → turns (suc k) d s m ≡ turns k d (next_state d s) (suc m)
  unfolding turns
  turns_move k can = rw (can, turns)

  pub turns-stop : (k : ℕ) → can_move d s ≡ false → turns k d s m ≡ answer_at d s m
  unfolding turns
  turns-stop zero cannot = turns-spent
  turns-stop (suc k) cannot = rw (cannot, turns)

-- ── the moves that an answer states ──

unfoldable pub moves_of : Outcome → ℕ
moves_of (planned places n) = n
moves_of (long j) = 0
moves_of (blocked set n) = n

pub answer_moves : (d : Day) (s : State) (n : ℕ) → moves_of (answer_at d s n) ≡ n
unfolding moves_of answer_at
answer_moves d s n = elim (split (congested d s)) [ inl c ↦ rw (c, answer_at) | inr c ↦ rw (c, answer_at) ]

pub turns-moves : (d : Day) (k : ℕ) (s : State) (m : ℕ) → moves_of (turns k d s m) ≤ m + k
turns-moves d zero s m = rw (turns-spent d s m) (omega (arith, answer_moves d s m))
turns-moves d (suc k) s m =
    ⊎_elim (λ can. rw (turns_move d s m k can) (omega (arith, turns-moves d k (next_state d s) (suc m))))
    (λ cannot. rw (turns-stop d s m (suc k) cannot) (omega (arith, answer_moves d s m)))
    (split (can_move d s))

pub run_long : (d : Day) → ltb (long_job d) d.jobs ≡ true → run d ≡ long (long_job d)
unfolding run
run_long d e = rw (e, run)

pub run-crowded : (d : Day) → ltb (long_job d) d.jobs ≡ false → ltb (crowded_bench d) d.benches ≡ true
    → run d ≡ blocked (component d (crowded_bench d)) 0
unfolding run
run-crowded d e c = rw (e, c, run)

pub run-turns : (d : Day) → ltb (long_job d) d.jobs ≡ false → ltb (crowded_bench d) d.benches ≡ false
    → run d ≡ turns (budget d) d (start d) 0
unfolding run
run-turns d short sparse = rw (short, sparse, run)

pub moves_bound : (d : Day) → moves_of (run d) ≤ budget d
unfolding run moves_of
moves_bound d =
    elim (split (ltb (long_job d) d.jobs)) [
      | inl l ↦ rw (l, run) (omega arith)
      | inr l ↦
          elim (split (ltb (crowded_bench d) d.benches)) [
            | inl c ↦ rw (l, c, run) (omega arith)
            | inr c ↦ rw (run-turns d l c) (omega (arith, turns-moves d (budget d) (start d) 0))
          ]
    ]

-- ── the potential ──

abbrev pub potential_of : Day → State → ℕ
potential_of d s = potential (board_of d s) (explored d s)

pub budget-enough : (d : Day) (s : State) → potential_of d s ≤ budget d
budget-enough d s = potential_bound (board_of d s) (explored d s)

pub record TurnsEnd (d : Day) : Type 0 where
  pub last : State
  pub moves : ℕ
  pub good : Good d last
  pub reached : Reached d moves last
  pub no_move : can_move d last ≡ false
  pub moves_bound : moves ≤ budget d
  pub answer : turns (budget d) d (start d) 0 ≡ answer_at d last moves

-- What other files prove of every good state: its board is sound, its exploration has the properties E1 to E9, and o spreads its rocks.
module _ (d : Day) (o : ℕ → ℕ)
    (sound : (s : State) → Good d s → SoundBoard (board_of d s))
    (facts : (s : State) → Good d s → Facts (board_of d s) (explored d s))
    (spread : (s : State) → Good d s → Spread (board_of d s) o) where
  pub next_drops : (s : State) → Good d s → can_move d s ≡ true → potential_of d (next_state d s) < potential_of d s
  next_drops s good can =
      let b = board_of d s in
      let x = explored d s in
      let a = push_job b x in
      let v = push_bench b x in
      let s' = next_state d s in
      let found = push_found d s can in
      let good' = next_good d s good can in
      let move = board-moved d s a v found.job_below good.one_to_a_job in
      let kept =
      levels_kept b (sound s good) x (facts s good) o (spread s good) a v found.job_below found.bench_below found.allowed
      (board_of d s') move (sound s' good') (explored d s') (facts s' good')
      in
      potential-drops b (sound s good) x (facts s good) a v found.job_below found.bench_below (push_allowed b x a v found.allowed)
      (board_of d s') move (explored d s') kept

  -- With fuel k from a state whose potential is at most k; m moves were made before.
  Within : ℕ → State → ℕ → Type 0
  Within k s m = (last : State) × (n : ℕ) × Good d last × Reached d n last × (can_move d last ≡ false) × (n ≤ m + k) × (turns k d s m ≡ answer_at d last n)

  -- A move lowers the potential by one, as it does the fuel; at potential 0 there is no move.
  turns-within : (k : ℕ) (s : State) (m : ℕ) → Good d s → Reached d m s → potential_of d s ≤ k → Within k s m
  unfolding Within
  turns-within zero s m good came few =
      ⊎_elim (λ can. absurd (omega (arith, next_drops s good can))) (λ cannot. (s, m, good, came, cannot, omega arith, turns-stop d s m 0 cannot))
      (split (can_move d s))
  turns-within (suc k) s m good came few =
      ⊎_elim
      (λ can.
      let r = turns-within k (next_state d s) (suc m) (next_good d s good can) (by_move came can) (omega (arith, next_drops s good can)) in
      (r.0, r.1, r.2, r.3, r.4, omega (arith, r.5), turns_move d s m k can ∙ r.6))
      (λ cannot. (s, m, good, came, cannot, omega arith, turns-stop d s m (suc k) cannot))
      (split (can_move d s))

  pub turns-ends : Good d (start d) → Reached d 0 (start d) → TurnsEnd d
  unfolding Within
  turns-ends good begun =
      let r = turns-within (budget d) (start d) 0 good begun (budget-enough d (start d)) in
      record { last = r.0; moves = r.1; good = r.2; reached = r.3; no_move = r.4; moves_bound = omega (arith, r.5); answer = r.6 }
