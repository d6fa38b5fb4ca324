-- What the search for the best target answers, and what it leaves in both tables (request S-4).
--     best_of t l m v n     a target with its plan, by its five values
--     plan_in a             the values of a plan; of any other answer, which has none, zeros
--     BestReply             an answer, with the numbers at the front of both tables: a fault has none
--     best_reply t runs r   the target t with r, the planner's reply at that target; so many targets were run
--     best_fault f          a fault, which leaves both tables as they were
--     best_case_of          the number of an answer, and its values
--     BestAnswered          what a call answers, and what it leaves in both tables
use Rattle.std.specs.Prelude.{ℕ, ◌≡◌, List, [], ◌∷◌, length}
use Rattle.fields.specs.declared.fault.Fault.{Fault}
use Rattle.fields.specs.Numbers.{number_of, place_of}
use Rattle.answers.specs.declared.answer.Answer.{Answer}
use Rattle.answers.specs.declared.answer.Answer.TheVariants.{Plan, Long, None, Fault as Faulty}
use Rattle.answers.specs.declared.answer.PlanAnswer.{PlanAnswer}
use Rattle.answers.specs.declared.best.BestAnswer.{BestAnswer}
use Rattle.answers.specs.declared.best.BestAnswer.TheVariants.{Best, Fault as BestFaulty}
use Rattle.answers.specs.declared.best.BestPlan.{BestPlan}
use Rattle.answers.specs.declared.best.BestFilled.{BestFilled}
use Rattle.answers.specs.Answers.{Reply, Case, front}

-- The target, the largest load, the moves, the fullest bench, and how many targets were run.
abbrev pub best_of : ℕ → ℕ → ℕ → ℕ → ℕ → BestPlan
best_of target largest moves fullest runs =
    record { target = target; plan = record { largest = largest; moves = moves; fullest = fullest }; runs = runs }

-- The search ends at a target whose run gives a plan; zeros are never told (argument BestTheorems `best_is_plan`).
abbrev no_plan : PlanAnswer
no_plan = record { largest = 0; moves = 0; fullest = 0 }

abbrev pub plan_in : Answer → PlanAnswer
plan_in (Plan p) = p
plan_in (Long l) = no_plan
plan_in (None n) = no_plan
plan_in (Faulty f) = no_plan

-- ── replies ──

pub record BestReply : Type 0 where
  pub answer : BestAnswer
  pub places : List ℕ
  pub loads : List ℕ

-- "return a target with its plan", and the number of targets run.
abbrev pub best_reply : ℕ → ℕ → Reply → BestReply
best_reply t runs r =
    record {
      answer = Best (record { target = t; plan = plan_in r.answer; runs = runs });
      places = r.places;
      loads = r.loads;
    }

abbrev pub best_fault : Fault → BestReply
best_fault f = record { answer = BestFaulty f; places = []; loads = [] }

-- ── number and values of each case ──

-- 1 best, with the target, the largest load, the moves and the fullest bench of its plan, and the targets run; a fault
-- has its own number and its place.
abbrev pub best_case_of : BestAnswer → Case
best_case_of (Best b) =
    record {
      number = 1;
      values = b.target ∷ b.plan.largest ∷ b.plan.moves ∷ b.plan.fullest ∷ b.runs ∷ [];
    }
best_case_of (BestFaulty f) = record { number = number_of f; values = place_of f ∷ [] }

-- ── tables ──

pub record BestAnswered (a : BestReply) (r : BestFilled) (places loads places' loads' : List ℕ) : Type 0 where
  pub answer : r.answer ≡ a.answer
  pub places_written : r.places ≡ length a.places
  pub loads_written : r.loads ≡ length a.loads
  pub new_places : places' ≡ front a.places places
  pub new_loads : loads' ≡ front a.loads loads
