-- The theorems about the reply to every accepted day. Their only hypothesis is `AcceptedDay day`, which the day of every accepted sheet
-- meets (algorithm SheetDay `accepted_day`); those about a state of the run speak of the states that the run reaches.
--     run-ended           the run ends within its budget, in one of the ways of RunEnd
--     run-moves           moves ≤ benches × light jobs that have a choice
--     answer_sound        a plan is an assignment within the bound, shown with its loads and the greatest of them; long names the lowest long
--                         job; none names a blocking set, its benches rising
--     rival_planned       if an assignment keeps every bench within the target, the answer is a plan
--     else_over           if the answer is no plan, every assignment leaves some bench above the target
--     long_given, else_fits   a job above the target gives long; after any other answer every job is at most the target
--     whole_claim         demand 3
--     reached_visited     the run comes by every state that it reaches, and goes on from there
--     levels_never_fall   Lemma 4.4.5
use Prim.Native.Nat.{ℕ, ◌≤◌, ◌<◌}
use mathlib.Core.Path.{◌≡◌, refl, ◌∙◌}
use mathlib.Core.Logic.{⊎_elim}
use mathlib.Core.Bool.{Bool, true, false}
use native.Mathlib.Omega.{arith}
use lib.Dec.{ltb}
use borrow.Author.Tests.{ltb-true, leb-true}
use Rattle.bools.proofs.BoolLaws.{split, clash}
use Rattle.sums.proofs.TableLaws.{length-table}
use Rattle.sums.proofs.SearchLaws.{least-before, all_elim}
use Rattle.day.specs.Day.{Day, load_of, long_job, move_bound}
use Rattle.algorithm.specs.Start.{State, crowded, crowded_bench}
use Rattle.algorithm.specs.Run.{board_of, places_of, explored, congested, can_move, next_state, answer_at, run}
use Rattle.algorithm.specs.States.{Reached, at_start, by_move, level_of, RunFrom}
use Rattle.algorithm.specs.Push.{push_job, push_bench}
use Rattle.answers.specs.Answers.{Reply, is_plan, is_long}
use Rattle.algorithm.specs.Answer.{shown, answer_to}
use Rattle.algorithm.specs.SoundDay.{AcceptedDay, SoundDay, Uncrowded}
use Rattle.algorithm.proofs.RockGraph.{uncrowded_test, crowded-bench}
use Rattle.algorithm.proofs.Moves.{push_found, board-moved}
use Rattle.algorithm.proofs.Levels.{levels_kept}
use Rattle.algorithm.proofs.SpreadLaws.{spread_of}
use Rattle.algorithm.proofs.Budget.{TurnsEnd, run_long, run-crowded, run-turns, moves_of, moves_bound, next_good}
use Rattle.algorithm.proofs.DayFacts.{good_sound, good_facts, good_spread, reached_good, reached-run, run_ends}
use Rattle.demand.specs.Demand.{Assignment, keeps_target, within_target, SomeOver, LongJob, EachFits}
use Rattle.argument.specs.Answers.{SoundAnswer, plan_sound, long_sound, none_sound, WholeClaim, RunEnd, a_long_job, crowded_component, no_move_left}
use Rattle.algorithm.proofs.SheetDay.{sound_day, none_long}
use Rattle.argument.proofs.LongFound.{long_found}
use Rattle.argument.proofs.Rival.{blocking_overloads, long_overloads}
use Rattle.argument.proofs.PlanBound.{plan_directions, plan_assignment, plan_keeps_bound}
use Rattle.argument.proofs.NoneBlocks.{activated-blocking, component-blocking}
use Rattle.argument.proofs.StateOfRun.{good_state, good_peeled, good_settled, unplaceable}
use Rattle.argument.proofs.ShownLaws.{plan-shown, none-shown}

none-crowded-before : (d : Day) (u : ℕ) → u < crowded_bench d → crowded d u ≡ false
unfolding crowded_bench
none-crowded-before d u l = least-before d.benches (crowded d) u l

module _ (day : Day) (accepted : AcceptedDay day) where
  module _ (short : ltb (long_job day) day.jobs ≡ false) where
    day_sound : SoundDay day
    day_sound = sound_day day accepted (none_long day short)

    module _ (fits : ltb (crowded_bench day) day.benches ≡ false) where
      uncrowded : Uncrowded day
      uncrowded = uncrowded_test day fits

      end_of-run : TurnsEnd day
      end_of-run = run_ends day day_sound uncrowded (at_start short fits)

      ended : run day ≡ answer_at day end_of-run.last end_of-run.moves
      ended = run-turns day short fits ∙ end_of-run.answer

      -- The answer at the last state of the run.
      last_sound : (b : Bool) → congested day end_of-run.last ≡ b → SoundAnswer day (shown day (answer_at day end_of-run.last end_of-run.moves))
      unfolding answer_at
      last_sound false calm =
          let st = end_of-run.last in
          let good = end_of-run.good in
          let settled = good_settled day day_sound st good uncrowded in
          rw (calm, answer_at)
          (plan_sound
          (plan-shown day (places_of day st (plan_directions day st)) end_of-run.moves accepted.benches_there (length-table day.jobs _)
          (plan_assignment day st settled (good_sound day day_sound uncrowded st good) (good_state day day_sound st good))
          (plan_keeps_bound day st settled (good_facts day day_sound uncrowded st good) calm)
          end_of-run.moves_bound))
      last_sound true crowd =
          let st = end_of-run.last in
          let good = end_of-run.good in
          rw (crowd, answer_at)
          (none_sound
          (none-shown day accepted.allowed_below _ end_of-run.moves
          (activated-blocking day st day_sound (good_state day day_sound st good) (good_sound day day_sound uncrowded st good)
          (good_facts day day_sound uncrowded st good) (good_peeled day day_sound st good) crowd end_of-run.no_move)
          end_of-run.moves_bound))

  pub run-ended : RunEnd day (run day)
  run-ended =
      ⊎_elim
      (λ e. rw (run_long day e) (a_long_job e))
      (λ short. ⊎_elim
      (λ c. rw (run-crowded day short c) (crowded_component (crowded_bench day) (ltb-true (crowded_bench day) day.benches c) (crowded-bench day (ltb-true (crowded_bench day) day.benches c)) (none-crowded-before day)))
      (λ fits. rw (ended short fits) (no_move_left (end_of-run short fits).last (end_of-run short fits).moves (end_of-run short fits).reached (end_of-run short fits).moves_bound (end_of-run short fits).no_move))
      (split (ltb (crowded_bench day) day.benches)))
      (split (ltb (long_job day) day.jobs))

  pub run-moves : moves_of (run day) ≤ move_bound day
  run-moves = moves_bound day

  pub answer_sound : SoundAnswer day (answer_to day)
  answer_sound =
      ⊎_elim
      (λ e. rw (run_long day e) (long_sound (long_found day e)))
      (λ short. ⊎_elim
      (λ c.
      let below = ltb-true (crowded_bench day) day.benches c in
      rw (run-crowded day short c)
      (none_sound
      (none-shown day accepted.allowed_below _ 0 (component-blocking day (unplaceable day (day_sound short)) (crowded_bench day) below (crowded-bench day below)) (omega arith))))
      (λ fits. rw (ended short fits) (last_sound short fits (congested day (end_of-run short fits).last) refl))
      (split (ltb (crowded_bench day) day.benches)))
      (split (ltb (long_job day) day.jobs))

  -- ── the rival ──

  no_plan_over : {a : Reply} → SoundAnswer day a → is_plan a.answer ≡ false → (r : ℕ → ℕ) → Assignment day r → SomeOver day r
  no_plan_over (plan_sound p) other r x = clash {b = true} refl other
  no_plan_over (long_sound {j = j} l) other r x = long_overloads day r x accepted j l.is_long
  no_plan_over (none_sound n) other r x = blocking_overloads day r x accepted _ n.blocking

  -- "After long or none every assignment leaves some bench above T."
  pub else_over : is_plan (answer_to day).answer ≡ false → (r : ℕ → ℕ) → Assignment day r → SomeOver day r
  else_over = no_plan_over answer_sound

  -- "If any assignment at all keeps every bench within T, a plan is given."
  pub rival_planned : (r : ℕ → ℕ) → Assignment day r → keeps_target day r ≡ true → is_plan (answer_to day).answer ≡ true
  rival_planned r x keeps =
      ⊎_elim (λ p. p)
      (λ other.
      let over = else_over other r x in
      let within : within_target day (load_of day r over.0) ≡ true = all_elim day.benches (λ v. within_target day (load_of day r v)) keeps over.0 over.1 in
      absurd (omega (arith, over.2, leb-true (load_of day r over.0) day.target within)))
      (split (is_plan (answer_to day).answer))

  -- ── long ──

  answer_long : ltb (long_job day) day.jobs ≡ true → is_long (answer_to day).answer ≡ true
  answer_long e = rw (run_long day e)

  -- "Long: the lowest job with more than T minutes. Tried before the run."
  pub long_given : (j : ℕ) → LongJob day j → is_long (answer_to day).answer ≡ true
  long_given j l =
      ⊎_elim answer_long
      (λ short. absurd (omega (arith, ltb-true day.target (day.minutes j) l.longer, none_long day short j l.is_job)))
      (split (ltb (long_job day) day.jobs))

  pub else_fits : is_long (answer_to day).answer ≡ false → EachFits day
  else_fits other =
      ⊎_elim (λ e. clash (answer_long e) other) (none_long day) (split (ltb (long_job day) day.jobs))

  pub whole_claim : WholeClaim day (answer_to day)
  whole_claim = record {
    sound = answer_sound;
    long_given = long_given;
    else_fits = else_fits;
    rival_planned = rival_planned;
    else_over = else_over;
  }

  -- ── the states of the run ──

  reached_short : {m : ℕ} {st : State} → Reached day m st → ltb (long_job day) day.jobs ≡ false
  reached_short (at_start short fits) = short
  reached_short (by_move came can) = reached_short came

  reached_fits : {m : ℕ} {st : State} → Reached day m st → ltb (crowded_bench day) day.benches ≡ false
  reached_fits (at_start short fits) = fits
  reached_fits (by_move came can) = reached_fits came

  module _ (m : ℕ) (st : State) (came : Reached day m st) where
    reached_sound : SoundDay day
    reached_sound = day_sound (reached_short came)

    reached_uncrowded : Uncrowded day
    reached_uncrowded = uncrowded (reached_short came) (reached_fits came)

    pub reached_visited : RunFrom day m st
    reached_visited = reached-run day reached_sound reached_uncrowded came

    -- "Let LEVEL(v) and LEVEL'(v) denote the levels before and after a PUSH operation. Then LEVEL'(v) ≥ LEVEL(v)."
    pub levels_never_fall : can_move day st ≡ true → (v : ℕ) → v < day.benches → level_of day st v ≤ level_of day (next_state day st) v
    levels_never_fall can v below =
        let d = day in
        let sound = reached_sound in
        let fits = reached_uncrowded in
        let good = reached_good d sound fits came in
        let next = next_good d st good can in
        let a = push_job (board_of d st) (explored d st) in
        let u = push_bench (board_of d st) (explored d st) in
        let found = push_found d st can in
        let kept =
        levels_kept (board_of d st) (good_sound d sound fits st good) (explored d st) (good_facts d sound fits st good) (spread_of d) (good_spread d sound fits st good)
        a u found.job_below found.bench_below found.allowed
        (board_of d (next_state d st)) (board-moved d st a u found.job_below good.one_to_a_job)
        (good_sound d sound fits (next_state d st) next) (explored d (next_state d st)) (good_facts d sound fits (next_state d st) next)
        in
        kept.levels v below
