-- What the search for a long job finds.
--     long_found              a long job, and all before it fit
use Prim.Native.Nat.{◌<◌}
use mathlib.Core.Path.{◌≡◌}
use mathlib.Core.Bool.{true}
use lib.Dec.{ltb}
use borrow.Author.Tests.{ltb-true, ltb-false}
use Rattle.sums.proofs.SearchLaws.{least-holds, least-before}
use Rattle.day.specs.Day.{Day, too_long, long_job}
use Rattle.demand.specs.Demand.{SoundLong}

pub long_found : (d : Day) → ltb (long_job d) d.jobs ≡ true → SoundLong d (long_job d)
unfolding long_job
long_found d found =
    let below : long_job d < d.jobs = ltb-true (long_job d) d.jobs found in
    record {
      is_long = record { is_job = below; longer = least-holds d.jobs (too_long d) below };
      lowest = λ j l. ltb-false d.target (d.minutes j) (least-before d.jobs (too_long d) j l);
    }
