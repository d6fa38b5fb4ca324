-- The least weight that a placement leaves inside a set of benches (request S-6; request S-14 reports the same number).
-- Day, Placement and what weighs inside a set are the words of crates/day and crates/demand.
--     heavy_inside d place set      the minutes of the heavy jobs placed inside the set
--     confined_inside d set         those of the light jobs whose benches all lie inside it, and what is booked there
--     HeavyWithin, NoPlacements     as facts: n is the least that a placement leaves inside; there is no placement
--     heavies_of d set              the heavy jobs of the day, as the procedure takes them
--     least_heavy d set             what the procedure finds
--     blocks d set                  the test by which a set is judged
use Rattle.std.specs.Prelude.{ℕ, ◌+◌, ◌*◌, ◌≤◌, ◌≡◌, Bool, true, cond, ◌&&◌, ltb}
use Rattle.sums.specs.Sum.{on, sum, count}
use Rattle.day.specs.Day.{Day, heavy, light}
use Rattle.demand.specs.Demand.{Placement, lies_inside}
use Rattle.algorithm.specs.Rocks.{lowest, highest}
use Rattle.std.specs.Prelude.{Option, None, Some}
use Rattle.placements.specs.Classes.{Heavies, least_of}

-- "the heavy jobs placed inside it"
abbrev pub heavy_inside : Day → (ℕ → ℕ) → (ℕ → Bool) → ℕ
heavy_inside d place set = sum d.jobs (λ j. on (heavy d j && set (place j)) (d.minutes j))

-- "plus all light jobs whose benches all lie inside it"; booked minutes "count in a blocking set that holds the bench".
abbrev pub confined_inside : Day → (ℕ → Bool) → ℕ
confined_inside d set =
    sum d.benches (λ v. on (set v) (d.booked v))
    + sum d.jobs (λ j. on (light d j && lies_inside d set j) (d.minutes j))

-- ── as facts ──

pub record LeastHeavy (d : Day) (set : ℕ → Bool) (n : ℕ) : Type 0 where
  pub reached : (place : ℕ → ℕ) × Placement d place × (heavy_inside d place set ≡ n)
  pub none_below : (place : ℕ → ℕ) → Placement d place → n ≤ heavy_inside d place set

abbrev pub NoPlacements : Day → Type 0
NoPlacements d = (place : ℕ → ℕ) → Placement d place → ⊥

-- ── as a procedure ──

-- "A heavy job then has at most two benches": its lowest, and the other one if there is one.
abbrev pub other_end : Day → ℕ → ℕ
other_end d j = cond (ltb (highest d j) d.benches) (highest d j) (lowest d j)

abbrev pub heavies_of : Day → (ℕ → Bool) → Heavies
heavies_of d set =
    record { heavy = heavy d; low = lowest d; high = other_end d; weight = d.minutes; inside = set }

abbrev pub least_heavy : Day → (ℕ → Bool) → Option ℕ
least_heavy d set = least_of (heavies_of d set) d.jobs

-- "weigh more than k × T. Where no placement exists every non-empty set is blocking."
abbrev pub outweighs : Day → (ℕ → Bool) → Option ℕ → Bool
outweighs d set None = true
outweighs d set (Some n) = ltb (count d.benches set * d.target) (confined_inside d set + n)

unfoldable pub blocks : Day → (ℕ → Bool) → Bool
blocks d set = ltb 0 (count d.benches set) && outweighs d set (least_heavy d set)
