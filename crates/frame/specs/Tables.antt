-- The arrays that a sound sheet is kept in.
--     Tables c ..         benches, booked minutes of each bench, number of jobs, and each job's minutes and set of
--                         benches are those of c
use Rattle.std.specs.Prelude.{ℕ, ◌<◌, ◌≡◌, List, length, get_or}
use Rattle.fields.specs.Contents.{Contents, booked_at}
use Rattle.fields.specs.Tests.{job_at}
use Rattle.frame.specs.Sound.{SoundSheet}

-- The numbers of a sheet in which no fault is found, its bookings, and its jobs' minutes and sets of benches.
pub record Tables (c : Contents) (benches : ℕ) (booked : List ℕ) (jobs : ℕ) (minutes allowed : List ℕ) : Type 0 where
  pub sound : SoundSheet c
  pub benches_are : benches ≡ c.head.benches
  pub booked_are : (b : ℕ) → get_or booked b 0 ≡ booked_at c.booked b
  pub jobs_are : jobs ≡ length c.jobs
  pub minutes_are : (j : ℕ) → j < length c.jobs → get_or minutes j 0 ≡ (job_at c.jobs j).minutes
  pub allowed_are : (j : ℕ) → j < length c.jobs → get_or allowed j 0 ≡ (job_at c.jobs j).allowed
