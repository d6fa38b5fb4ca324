-- The comparison of two plans of a sheet (document 01, "The three answers", and request S-8). A list is a table of
-- places: entry j is job j's bench.
--     gives_each d list         the list gives each job of the day one allowed bench
--     same_place first second j  both lists put job j on the same bench
--     same_places d first second    they do so with every job of the day
--     compared_by first second same  the answer, by whether each list gives each job a bench, and whether both agree
--     compared_of d first second    the answer for the day of an accepted sheet
--     compare_plans s first second  the answer for the bytes s
-- As facts:
--     Gives d list              the list gives each job of the day one allowed bench
--     Good s list               it does so for the sheet s, if that is accepted
--     EqualPlaces d first second    both lists put every job on the same bench
--     SomeMoved d first second      some job is on another bench
--     OnlyChecksMoved d first second    no job above 0 minutes is
--     EqualLoads d first second     both lists give every bench the same load
--     EqualLoadsAlone s c first second      two plans of a sheet that have equal loads and are not the same
use Rattle.std.specs.Prelude.{ℕ, ◌<◌, ◌≡◌, Bool, false, cond, ◌&&◌, ◌≢◌, List, length, eqb}
use Rattle.sums.specs.Search.{all}
use Rattle.fields.specs.declared.fault.Fault.TheVariants.{Table}
use Rattle.fields.specs.Contents.{Contents}
use Rattle.frame.specs.Reading.{accepted, refused, read_sheet}
use Rattle.day.specs.Day.{Day, day_of, check_only, place_in, load_of}
use Rattle.demand.specs.Demand.{is_assignment, Assignment}
use Rattle.comparison.specs.declared.compared.Compared.{Compared}
use Rattle.comparison.specs.declared.compared.Compared.TheVariants.{Same, Different, Fault as ComparedFault}

-- "a list that does not give each job one allowed bench"
abbrev pub gives_each : Day → List ℕ → Bool
gives_each d list = eqb (length list) d.jobs && is_assignment d (place_in list)

abbrev pub same_place : List ℕ → List ℕ → ℕ → Bool
same_place first second j = eqb (place_in first j) (place_in second j)

-- Request S-8: "plans are the same when every job is on the same bench"
abbrev pub same_places : Day → List ℕ → List ℕ → Bool
same_places d first second = all d.jobs (same_place first second)

-- "fault 13, place 0 for the first list and 1 for the second, the first judged first"
abbrev pub compared_by : Bool → Bool → Bool → Compared
compared_by first second same =
    cond first
    (cond second (cond same Same Different) (ComparedFault (Table 1)))
    (ComparedFault (Table 0))

abbrev pub compared_of : Day → List ℕ → List ℕ → Compared
compared_of d first second = compared_by (gives_each d first) (gives_each d second) (same_places d first second)

-- "After faults 1 to 12"
unfoldable pub compare_plans : List ℕ → List ℕ → List ℕ → Compared
compare_plans s first second =
    elim (read_sheet s) [ refused f ↦ ComparedFault f | accepted c ↦ compared_of (day_of c) first second ]

-- ── as facts ──

-- One entry to a job, and the entries are an assignment.
pub record Gives (d : Day) (list : List ℕ) : Type 0 where
  pub one_to_a_job : length list ≡ d.jobs
  pub assignment : Assignment d (place_in list)

abbrev pub Good : List ℕ → List ℕ → Type 0
Good s list = (c : Contents) → read_sheet s ≡ accepted c → Gives (day_of c) list

abbrev pub EqualPlaces : Day → List ℕ → List ℕ → Type 0
EqualPlaces d first second = (j : ℕ) → j < d.jobs → place_in first j ≡ place_in second j

abbrev pub SomeMoved : Day → List ℕ → List ℕ → Type 0
SomeMoved d first second = (j : ℕ) × (j < d.jobs) × (place_in first j ≢ place_in second j)

-- "although a 0-minute check had moved"
abbrev pub OnlyChecksMoved : Day → List ℕ → List ℕ → Type 0
OnlyChecksMoved d first second =
    (j : ℕ) → j < d.jobs → check_only d j ≡ false → place_in first j ≡ place_in second j

abbrev pub EqualLoads : Day → List ℕ → List ℕ → Type 0
EqualLoads d first second = (v : ℕ) → v < d.benches → load_of d (place_in first) v ≡ load_of d (place_in second) v

-- "Such plans have equal loads, but not conversely."
pub record EqualLoadsAlone (s : List ℕ) (c : Contents) (first second : List ℕ) : Type 0 where
  pub read : read_sheet s ≡ accepted c
  pub first_gives : Gives (day_of c) first
  pub second_gives : Gives (day_of c) second
  pub equal_loads : EqualLoads (day_of c) first second
  pub different : compare_plans s first second ≡ Different
