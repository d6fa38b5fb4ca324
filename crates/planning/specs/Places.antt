-- The tables of a plan (document 01, "The three answers").
--     Places d ..         tables hold the jobs of a day, its booked minutes, and places for its jobs
--     PlanWritten a ..    the plan a has been written to both tables, and its numbers are returned
use Rattle.std.specs.Prelude.{ℕ, ◌<◌, ◌≡◌, List, length, get_or}
use Rattle.day.specs.Day.{Day}
use Rattle.answers.specs.declared.answer.Answer.TheVariants.{Plan}
use Rattle.answers.specs.declared.answer.PlanAnswer.{PlanAnswer}
use Rattle.answers.specs.Answers.{Reply, front}
use Rattle.start.specs.StartArrays.{Fields}

-- The list ps has the places of the table, one to a job.
pub record Places (d : Day) (jobs benches : ℕ) (minutes booked place ps : List ℕ) : Type 0 where
  pub allowed : List ℕ
  pub fields : Fields d jobs minutes allowed
  pub benches_are : benches ≡ d.benches
  pub booked_are : (v : ℕ) → v < d.benches → get_or booked v 0 ≡ d.booked v
  pub one_to_a_job : length ps ≡ d.jobs
  pub places_are : (j : ℕ) → j < d.jobs → get_or place j 0 ≡ get_or ps j 0

-- "Entry j of the first table is job j's bench, entry b of the second is bench b's load; later entries keep their
-- contents."
pub record PlanWritten (a : Reply) (r : PlanAnswer) (places loads places' loads' : List ℕ) : Type 0 where
  pub numbers : Plan r ≡ a.answer
  pub new_places : places' ≡ front a.places places
  pub new_loads : loads' ≡ front a.loads loads
