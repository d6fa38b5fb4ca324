-- The check of a list of places (request S-6). Entry j of the list is job j's bench.
--     list_passes d list    each job is on an allowed bench, and no load exceeds the bound
--     listed_of d list       the answer for the day of an accepted sheet
--     check_list s list     the answer for the bytes s
use Rattle.std.specs.Prelude.{ℕ, Bool, cond, ◌&&◌, List, length, eqb}
use Rattle.fields.specs.declared.fault.Fault.TheVariants.{PlaceCount}
use Rattle.frame.specs.Reading.{accepted, refused, read_sheet}
use Rattle.day.specs.Day.{Day, day_of, place_in, largest_of, fullest_of}
use Rattle.demand.specs.Demand.{is_assignment, keeps_bound}
use Rattle.answers.specs.declared.check.ListAnswer.{ListAnswer}
use Rattle.answers.specs.declared.check.ListAnswer.TheVariants.{Passed, NotPassed, Fault as Faulty}

-- "A list is passed if and only if each job is on an allowed bench and no load exceeds the bound for the sheet's
-- target". Nothing is asked of single jobs: one may be longer than T.
abbrev pub list_passes : Day → List ℕ → Bool
list_passes d list = is_assignment d (place_in list) && keeps_bound d (place_in list)

-- "number 16 says that the list does not have one place a job"; "a passed list's largest load is returned", with the
-- fullest bench (request S-2: "Every bench sum now also promises the fullest bench").
abbrev pub listed_of : Day → List ℕ → ListAnswer
listed_of d list =
    cond (eqb (length list) d.jobs)
    (cond (list_passes d list) (Passed (record { largest = largest_of d list; fullest = fullest_of d list })) NotPassed)
    (Faulty PlaceCount)

-- "After the sheet's faults"
unfoldable pub check_list : List ℕ → List ℕ → ListAnswer
check_list s list = elim (read_sheet s) [ refused f ↦ Faulty f | accepted c ↦ listed_of (day_of c) list ]
