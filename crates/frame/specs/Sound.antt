-- What the tests 7 to 12 and 14 leave: the heads, bookings, jobs and sheets in which they find no fault, in terms of
-- their numbers.
--     SoundHead h         7 and 8 find no fault in the head h
--     SoundBookings m bs  14 finds none in the bookings bs, of any number of benches, on a sheet of m benches
--     SoundJob m n j      9 to 11 find none in the job j, of number n (from 0), on a sheet of m benches
--     SoundSheet c        7 to 12 and 14 find none in the contents c, jobs numbered in order; 12 by its verdict
-- Each is equivalent to its tests, for any numbers: WriterLaws head_sound and sound-head, bookings_sound and
-- sound-bookings, job_sound and sound-job, writer_verdict-sound and sound-writer_verdict. What is read is sound:
-- AcceptedLaws accepted_sound. The tests 1 to 6 are about bytes, and a sound sheet says nothing of them; but if its
-- benches allowed fit 64 bits, it is what its own bytes are read as: RoundTrip write-read.
use Rattle.std.specs.Prelude.{ℕ, ◌*◌, ◌^◌, ◌≤◌, ◌<◌, List, true, ◌≡◌, length, Ok}
use Rattle.fields.specs.declared.sheet.Head.{Head}
use Rattle.fields.specs.declared.sheet.Job.{Job}
use Rattle.fields.specs.Contents.{Contents, booked_at}
use Rattle.fields.specs.Format.{allows}
use Rattle.fields.specs.Tests.{job_at, hyper_edge_verdict}

pub record SoundHead (h : Head) : Type 0 where
  pub some_bench : 0 < h.benches
  pub at_most_64_benches : h.benches ≤ 64
  pub target_fits : h.target < 2 ^ 30
  pub p_fits : h.p < 128
  pub q_fits : h.q < 128
  pub q_positive : 0 < h.q
  pub share_large_enough : 4 * h.q ≤ 7 * h.p
  pub share_below_one : h.p < h.q

pub record SoundBookings (m : ℕ) (bs : List ℕ) : Type 0 where
  pub booked_fit : (b : ℕ) → booked_at bs b < 2 ^ 20
  pub none_past_head : (b : ℕ) → m ≤ b → booked_at bs b ≡ 0

pub record SoundJob (m n : ℕ) (j : Job) : Type 0 where
  pub number_below_512 : n < 512
  pub minutes_fit : j.minutes < 2 ^ 20
  pub allows_some : (b : ℕ) × (b < 64) × (allows j b ≡ true)
  pub allows_below : (b : ℕ) → b < 64 → allows j b ≡ true → b < m

-- That there are at most 512 jobs follows from their numbers.
pub record SoundSheet (c : Contents) : Type 0 where
  pub head : SoundHead c.head
  pub bookings : SoundBookings c.head.benches c.booked
  pub jobs : (i : ℕ) → i < length c.jobs → SoundJob c.head.benches i (job_at c.jobs i)
  pub at_most_512_jobs : length c.jobs ≤ 512
  pub no_heavy_hyper_edge : hyper_edge_verdict c.head c.jobs ≡ Ok tt
