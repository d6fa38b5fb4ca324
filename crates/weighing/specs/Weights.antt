-- What weighs inside a set of benches, in arrays.
--     within a b            every bench of the set a is in the set b
--     Bookings d benches booked     the table has what is booked on the day
--     Weighs d bay jobs minutes allowed booked      the bay and the tables have a day without a long job
--     OfTheDay d set        the set has a bench, and none but the day's
use Rattle.std.specs.Prelude.{ℕ, ◌<◌, ◌^◌, ◌≡◌, Bool, true, not, ◌||◌, List, get_or}
use Rattle.bits.specs.Bits.{is_set}
use Rattle.sums.specs.Search.{all}
use Rattle.day.specs.Day.{Day}
use Rattle.start.specs.StartArrays.{Bounded}
use Rattle.placing.specs.declared.classes.Bay.{Bay}
use Rattle.placing.specs.ClassArrays.{Holds}

unfoldable pub within : ℕ → ℕ → Bool
within a b = all 64 (λ v. not (is_set 64 a v) || is_set 64 b v)

pub record Bookings (d : Day) (benches : ℕ) (booked : List ℕ) : Type 0 where
  pub bounded : Bounded d
  pub benches_are : benches ≡ d.benches
  pub booked_are : (v : ℕ) → v < d.benches → get_or booked v 0 ≡ d.booked v

pub record Weighs (d : Day) (bay : Bay) (jobs : ℕ) (minutes allowed booked : List ℕ) : Type 0 where
  pub holds : Holds d bay jobs minutes allowed
  pub bookings : Bookings d bay.benches booked

pub record OfTheDay (d : Day) (set : ℕ) : Type 0 where
  pub some_bench : 0 < set
  pub of_64_bits : set < 2 ^ 64
  pub of_the_head : (v : ℕ) → is_set 64 set v ≡ true → v < d.benches
