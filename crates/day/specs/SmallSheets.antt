-- Contents of small sheets and their days, for examples.
--     sheet h js          the contents with this head, no bookings and these jobs
--     booked_sheet h bs js    the same with the bookings bs: entry b for bench b
--     day_with h js, booked_day h bs js   the days of these contents
--     bay m p q t         a head: benches, share and target
--     first, second, third    a job on bench 0, on bench 1, on bench 2
--     both, outside, three    a job on benches 0 and 1, on benches 0 and 2, on all three of these
--     last                a job on bench 63
use Rattle.std.specs.Prelude.{ℕ, ◌+◌, ◌-◌, ◌^◌, List, ◌++◌, length, replicate}
use Rattle.fields.specs.declared.sheet.Head.{Head}
use Rattle.fields.specs.declared.sheet.Job.{Job}
use Rattle.fields.specs.Contents.{Contents, no_bookings}
use Rattle.day.specs.Day.{Day, day_of}

abbrev pub sheet : Head → List Job → Contents
sheet h js = record { head = h; booked = no_bookings; jobs = js }

abbrev pub booked_sheet : Head → List ℕ → List Job → Contents
booked_sheet h bs js = record { head = h; booked = bs ++ replicate (64 - length bs) 0; jobs = js }

abbrev pub day_with : Head → List Job → Day
day_with h js = day_of (sheet h js)

abbrev pub booked_day : Head → List ℕ → List Job → Day
booked_day h bs js = day_of (booked_sheet h bs js)

abbrev pub bay : ℕ → ℕ → ℕ → ℕ → Head
bay m p q t = record { benches = m; p = p; q = q; target = t }

abbrev pub first : ℕ → Job
first n = record { minutes = n; allowed = 2 ^ 63 }

abbrev pub second : ℕ → Job
second n = record { minutes = n; allowed = 2 ^ 62 }

abbrev pub third : ℕ → Job
third n = record { minutes = n; allowed = 2 ^ 61 }

abbrev pub both : ℕ → Job
both n = record { minutes = n; allowed = 2 ^ 63 + 2 ^ 62 }

abbrev pub outside : ℕ → Job
outside n = record { minutes = n; allowed = 2 ^ 63 + 2 ^ 61 }

abbrev pub three : ℕ → Job
three n = record { minutes = n; allowed = 2 ^ 63 + 2 ^ 62 + 2 ^ 61 }

abbrev pub last : ℕ → Job
last n = record { minutes = n; allowed = 1 }
