-- What the reply to a day must be (document 01, demand 3 and "The three answers").
--     SoundPlan, SoundNone    what holds of a plan, and of a none (of long: demand's SoundLong)
--     SoundAnswer d r         r is one of the three answers, and right for the day d
--     WholeClaim d r          demand 3
--     RunEnd d o              how a run comes to its outcome
use Rattle.std.specs.Prelude.{ℕ, ◌≤◌, ◌<◌, ◌≡◌, true, false, List, length, get_or, ltb}
use Rattle.day.specs.Day.{Day, place_in, load_of, within_bound, long_job, move_bound}
use Rattle.demand.specs.Demand.{Assignment, keeps_target, SomeOver, Blocking, LongJob, EachFits, SoundLong}
use Rattle.answers.specs.declared.answer.PlanAnswer.{PlanAnswer}
use Rattle.answers.specs.Answers.{one_of, Reply, plan_reply, long_reply, none_reply, is_plan, is_long}
use Rattle.algorithm.specs.Start.{State, component, crowded}
use Rattle.algorithm.specs.Run.{Outcome, long, blocked, can_move, answer_at, budget}
use Rattle.algorithm.specs.States.{Reached}

-- ── the three answers ──

-- "A plan is the assignment in the first table, the second table has its loads, and the largest load is the greatest
-- of them."
pub record SoundPlan (d : Day) (p : PlanAnswer) (places loads : List ℕ) : Type 0 where
  pub one_to_a_job : length places ≡ d.jobs
  pub assignment : Assignment d (place_in places)
  pub one_to_a_bench : length loads ≡ d.benches
  pub its_loads : (v : ℕ) → v < d.benches → get_or loads v 0 ≡ load_of d (place_in places) v
  pub greatest : (v : ℕ) → v < d.benches → get_or loads v 0 ≤ p.largest
  pub one_of_them : (v : ℕ) × (v < d.benches) × (get_or loads v 0 ≡ p.largest)
  -- Request S-2: "the fullest bench, the lowest on a tie".
  pub fullest_bench : p.fullest < d.benches
  pub fullest_load : get_or loads p.fullest 0 ≡ p.largest
  pub lower_less : (v : ℕ) → v < p.fullest → get_or loads v 0 < p.largest
  pub within_bound : (v : ℕ) → v < d.benches → within_bound d (get_or loads v 0) ≡ true
  pub few_moves : p.moves ≤ move_bound d

-- "None: a blocking set and the moves made", the benches rising.
pub record SoundNone (d : Day) (benches : List ℕ) (moves : ℕ) : Type 0 where
  pub some_bench : 0 < length benches
  pub rising : (i k : ℕ) → i < k → k < length benches → get_or benches i 0 < get_or benches k 0
  pub of_the_day : (i : ℕ) → i < length benches → get_or benches i 0 < d.benches
  pub blocking : Blocking d (one_of benches)
  pub few_moves : moves ≤ move_bound d

-- "The answer is then one of the three."
pub data SoundAnswer (d : Day) : Reply → Type 0 where
  plan_sound : {p : PlanAnswer} {places loads : List ℕ} → SoundPlan d p places loads
      → SoundAnswer d (plan_reply p places loads)
  long_sound : {j : ℕ} → SoundLong d j → SoundAnswer d (long_reply j)
  none_sound : {benches : List ℕ} {moves : ℕ} → SoundNone d benches moves → SoundAnswer d (none_reply benches moves)

-- ── demand 3 ──

-- "The rival may try every assignment; it is not held to placements or to the run."
pub record WholeClaim (d : Day) (r : Reply) : Type 0 where
  pub sound : SoundAnswer d r
  -- A job above T gives long; after any other answer every job is at most T.
  pub long_given : (j : ℕ) → LongJob d j → is_long r.answer ≡ true
  pub else_fits : is_long r.answer ≡ false → EachFits d
  -- If any assignment at all keeps every bench within T, a plan is given.
  pub rival_planned : (a : ℕ → ℕ) → Assignment d a → keeps_target d a ≡ true → is_plan r.answer ≡ true
  -- After long or none every assignment leaves some bench above T.
  pub else_over : is_plan r.answer ≡ false → (a : ℕ → ℕ) → Assignment d a → SomeOver d a

-- ── the run ──

-- A long job or a crowded component ends the run before it begins. Else it ends at the first state in which no move is
-- left, within the budget: with a plan where no bench is overloaded, with none where one is.
pub data RunEnd (d : Day) : Outcome → Type 0 where
  a_long_job : ltb (long_job d) d.jobs ≡ true → RunEnd d (long (long_job d))
  -- "the component with the lowest bench"
  crowded_component : (v : ℕ) → v < d.benches → crowded d v ≡ true → ((u : ℕ) → u < v → crowded d u ≡ false)
      → RunEnd d (blocked (component d v) 0)
  no_move_left : (s : State) (moves : ℕ) → Reached d moves s → moves ≤ budget d → can_move d s ≡ false
      → RunEnd d (answer_at d s moves)
