-- What a sheet holds (document 01, "The sheet"), as one value: what is read from its bytes, and what its writer is
-- given.
--     Contents            the head, the minutes booked on each bench, and the jobs in sheet order
--     booked_at bs b      the minutes booked on bench b: entry b, and 0 past the end of the list
--     no_bookings         64 benches with nothing booked
--     every_bench bs      the bookings bs as one number for each of 64 benches
use Rattle.std.specs.Prelude.{ℕ, List, get_or, replicate}
use Rattle.sums.specs.Table.{table}
use Rattle.fields.specs.declared.sheet.Head.{Head}
use Rattle.fields.specs.declared.sheet.Job.{Job}

pub record Contents : Type 0 where
  pub head : Head
  pub booked : List ℕ
  pub jobs : List Job

-- "A booking of 0 is the same as none"
abbrev pub booked_at : List ℕ → ℕ → ℕ
booked_at bs b = get_or bs b 0

abbrev pub no_bookings : List ℕ
no_bookings = replicate 64 0

-- "one number for each of 64 benches"
abbrev pub every_bench : List ℕ → List ℕ
every_bench bs = table 64 (booked_at bs)
