-- What is promised of the check of a list, as facts (request S-6). Of places: n is how many there are, and a j is job
-- j's bench.
--     GoodPlaces d n a      one place a job, each on an allowed bench, and no load above the bound
--     NotAllowed d a        some job is on a bench that it does not allow
--     AboveBound d a        some load is above the bound
--     BadPlaces d n a       one place a job, but one of these two holds
--     GreatestLoad d a largest fullest      the greatest of the loads, and the lowest bench that has it
--     ListClaim s list r    the claim, of the sheet s, the list and the answer r
use Rattle.std.specs.Prelude.{ℕ, ◌≤◌, ◌<◌, ◌≡◌, ◌⊎◌, ◌≢◌, true, false, List, length}
use Rattle.fields.specs.declared.fault.Fault.{Fault}
use Rattle.fields.specs.declared.fault.Fault.TheVariants.{PlaceCount}
use Rattle.fields.specs.Contents.{Contents}
use Rattle.frame.specs.Reading.{accepted, refused, read_sheet}
use Rattle.day.specs.Day.{Day, day_of, place_in, load_of, within_bound}
use Rattle.demand.specs.Demand.{Assignment}
use Rattle.answers.specs.declared.check.ListAnswer.{ListAnswer}
use Rattle.answers.specs.declared.check.ListAnswer.TheVariants.{Passed, NotPassed, Fault as Faulty}
use Rattle.answers.specs.declared.check.ListPassed.{ListPassed}

-- "each job is on an allowed bench and no load exceeds the bound for the sheet's target"; what is booked is part of a
-- load.
pub record GoodPlaces (d : Day) (n : ℕ) (a : ℕ → ℕ) : Type 0 where
  pub one_to_a_job : n ≡ d.jobs
  pub assignment : Assignment d a
  pub within_bound : (v : ℕ) → v < d.benches → within_bound d (load_of d a v) ≡ true

abbrev pub NotAllowed : Day → (ℕ → ℕ) → Type 0
NotAllowed d a = (j : ℕ) × (j < d.jobs) × (d.allows j (a j) ≡ false)

abbrev pub AboveBound : Day → (ℕ → ℕ) → Type 0
AboveBound d a = (v : ℕ) × (v < d.benches) × (within_bound d (load_of d a v) ≡ false)

pub record BadPlaces (d : Day) (n : ℕ) (a : ℕ → ℕ) : Type 0 where
  pub one_to_a_job : n ≡ d.jobs
  pub somewhere : NotAllowed d a ⊎ AboveBound d a

-- "a passed list's largest load is returned"; request S-2: "the fullest bench, the lowest on a tie".
pub record GreatestLoad (d : Day) (a : ℕ → ℕ) (largest fullest : ℕ) : Type 0 where
  pub greatest : (v : ℕ) → v < d.benches → load_of d a v ≤ largest
  pub one_of_them : (v : ℕ) × (v < d.benches) × (load_of d a v ≡ largest)
  pub fullest_bench : fullest < d.benches
  pub fullest_load : load_of d a fullest ≡ largest
  pub lower_less : (v : ℕ) → v < fullest → load_of d a v < largest

-- Of every row of bytes and every list. The day of an accepted sheet is that of its contents, day_of c.
pub record ListClaim (s list : List ℕ) (r : ListAnswer) : Type 0 where
  -- First the faults of the sheet, then number 16: "the list does not have one place a job".
  pub sheet_refused : (f : Fault) → read_sheet s ≡ refused f → r ≡ Faulty f
  pub other_count : (c : Contents) → read_sheet s ≡ accepted c
      → length list ≢ length c.jobs → r ≡ Faulty PlaceCount
  -- "A list is passed if and only if each job is on an allowed bench and no load exceeds the bound".
  pub passed_good : (c : Contents) → read_sheet s ≡ accepted c
      → (p : ListPassed) → r ≡ Passed p → GoodPlaces (day_of c) (length list) (place_in list)
  pub good_passed : (c : Contents) → read_sheet s ≡ accepted c
      → GoodPlaces (day_of c) (length list) (place_in list) → (p : ListPassed) × (r ≡ Passed p)
  -- Its largest load is returned, and the lowest bench that has it.
  pub passed_with : (c : Contents) → read_sheet s ≡ accepted c
      → (p : ListPassed) → r ≡ Passed p → GreatestLoad (day_of c) (place_in list) p.largest p.fullest
  -- What is left is not passed, and nothing else.
  pub not_passed_bad : (c : Contents) → read_sheet s ≡ accepted c
      → r ≡ NotPassed → BadPlaces (day_of c) (length list) (place_in list)
  pub bad_not_passed : (c : Contents) → read_sheet s ≡ accepted c
      → BadPlaces (day_of c) (length list) (place_in list) → r ≡ NotPassed
