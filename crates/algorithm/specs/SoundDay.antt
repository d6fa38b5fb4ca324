-- What the theorems ask of a day.
--     AcceptedDay d         what the faults 7 to 12 leave of a day, whatever its target and bookings: the share is
--                           between 4/7 and 1, every job has a bench, and where no job is long a heavy job has at
--                           most two benches
--     SoundDay d            besides, no job is longer than the target
--     Uncrowded d           no component has more rocks than benches
--     RockPlacement d pl    pl puts every rock on a bench that it allows, and no two rocks on one bench
use Rattle.std.specs.Prelude.{ℕ, ◌*◌, ◌≤◌, ◌<◌, ◌≡◌, true, false}
use Rattle.day.specs.Day.{Day, choices, heavy}
use Rattle.demand.specs.Demand.{EachFits}
use Rattle.algorithm.specs.Rocks.{rock}
use Rattle.algorithm.specs.Start.{crowded}

pub record AcceptedDay (d : Day) : Type 0 where
  pub benches_there : 0 < d.benches
  pub positive : 0 < d.q
  pub below_one : d.p < d.q
  pub share : 4 * d.q ≤ 7 * d.p
  pub some_bench : (j : ℕ) → j < d.jobs → (v : ℕ) × (v < d.benches) × (d.allows j v ≡ true)
  pub allowed_below : (j v : ℕ) → d.allows j v ≡ true → v < d.benches
  -- "With every job at most T … A heavy job then has at most two benches."
  pub heavy_two : EachFits d → (j : ℕ) → j < d.jobs → heavy d j ≡ true → choices d j ≤ 2

pub record SoundDay (d : Day) : Type 0 where
  pub positive : 0 < d.q
  pub below_one : d.p < d.q
  pub share : 4 * d.q ≤ 7 * d.p
  pub some_bench : (j : ℕ) → j < d.jobs → (v : ℕ) × (v < d.benches) × (d.allows j v ≡ true)
  pub allowed_below : (j v : ℕ) → d.allows j v ≡ true → v < d.benches
  pub fits : EachFits d
  pub heavy_two : (j : ℕ) → j < d.jobs → heavy d j ≡ true → choices d j ≤ 2

abbrev pub Uncrowded : Day → Type 0
Uncrowded d = (v : ℕ) → v < d.benches → crowded d v ≡ false

pub record RockPlacement (d : Day) (pl : ℕ → ℕ) : Type 0 where
  pub allowed : (j : ℕ) → j < d.jobs → rock d j ≡ true → d.allows j (pl j) ≡ true
  pub one_each : (i j : ℕ) → i < d.jobs → j < d.jobs
      → rock d i ≡ true → rock d j ≡ true → pl i ≡ pl j → i ≡ j
