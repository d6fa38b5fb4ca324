-- What the best target must be (request S-4).
--     StartPlanned d    the planner gives a plan at the target where the search starts
--     Vouched d b       what holds of a target with its plan, whatever tables the plan stands in
use Rattle.std.specs.Prelude.{ℕ, suc, ◌+◌, ◌*◌, ◌^◌, ◌≤◌, ◌<◌, ◌≡◌, true, false, get_or}
use Rattle.day.specs.Day.{Day, scale, with_target, start_target, largest_load}
use Rattle.demand.specs.Demand.{Assignment, EachFits}
use Rattle.answers.specs.declared.answer.Answer.TheVariants.{Plan}
use Rattle.answers.specs.declared.best.BestPlan.{BestPlan}
use Rattle.answers.specs.Answers.{is_plan}
use Rattle.algorithm.specs.Answer.{answer_to}
use Rattle.algorithm.specs.Best.{searched, targets_run}

-- "The search starts at the total of all minutes plus the largest booking, where a plan always exists."
abbrev pub StartPlanned : Day → Type 0
StartPlanned d = is_plan (answer_to (with_target d (start_target d))).answer ≡ true

pub record Vouched (d : Day) (b : BestPlan) : Type 0 where
  -- "return a target with its plan": the planner's own at that target.
  pub its_plan : (answer_to (with_target d b.target)).answer ≡ Plan b.plan
  pub each_fits : EachFits (with_target d b.target)
  -- "such that the target one below was refused, or the target is 0"
  pub refused_below : (t : ℕ) → suc t ≡ b.target → is_plan (answer_to (with_target d t)).answer ≡ false
  -- No assignment has all its loads below the target.
  pub none_below : (a : ℕ → ℕ) → Assignment d a → b.target ≤ largest_load d a
  -- "The plan is thus within (5/3 + p/(3q)) times the best possible largest load."
  pub near_best : (a : ℕ → ℕ) → Assignment d a
      → scale d * b.plan.largest ≤ (5 * d.q + d.p) * largest_load d a
  -- "at most 31 targets are run, and their number is reported": the start and the middles that the search tried.
  pub runs_are : b.runs ≡ targets_run d
  pub some_run : 1 ≤ b.runs
  pub few_runs : b.runs ≤ 31
  -- A target has 30 bits in a sheet: the one found, and every one that was run.
  pub target_fits : b.target < 2 ^ 30
  pub tried_fit : (i : ℕ) → i < b.runs → get_or (searched d).tried i 0 < 2 ^ 30
