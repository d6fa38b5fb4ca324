-- The check of a page of sets (request S-7). A page is a list of numbers of 64 bits; its faults are those of
-- page_faults' specs/PageFaults.
--     NoneUnfit d page      number 17 holds of no set of the page
--     first_open d page     the first set that is not blocking, and the number of sets where each is
--     open_set d page       this set, if there is one
--     after_faults v rest   the fault of a page, and the rest where it has none
--     answered_by d page rest   the page's faults, then long, then the rest
--     first_answer d page   what is answered before a set is judged
--     page_answer d page    the answer for the day of an accepted sheet
--     check_page s page     the answer for the bytes s
use Rattle.std.specs.Prelude.{ℕ, ◌<◌, ◌≡◌, false, cond, not, List, ltb, length, Ok, Err, Option}
use Rattle.std.specs.Bool.{then_some}
use Rattle.bits.specs.Bits.{is_set}
use Rattle.sums.specs.Search.{least}
use Rattle.fields.specs.Tests.{Verdict}
use Rattle.frame.specs.Reading.{accepted, refused, read_sheet}
use Rattle.day.specs.Day.{Day, day_of, long_job}
use Rattle.answers.specs.declared.check.PageAnswer.{PageAnswer}
use Rattle.answers.specs.declared.check.PageAnswer.TheVariants.{Passed, Long, NotPassed, Fault as Faulty}
use Rattle.placements.specs.LeastWeight.{blocks}
use Rattle.page_faults.specs.PageFaults.{set_at, unfit, page_verdict}

abbrev pub NoneUnfit : Day → List ℕ → Type 0
NoneUnfit d page = (i : ℕ) → i < length page → unfit d.benches (set_at page i) ≡ false

unfoldable pub first_open : Day → List ℕ → ℕ
first_open d page = least (length page) (λ i. not (blocks d (is_set 64 (set_at page i))))

abbrev pub open_set : Day → List ℕ → Option ℕ
open_set d page = then_some (ltb (first_open d page) (length page)) (first_open d page)

abbrev pub after_faults : Verdict → PageAnswer → PageAnswer
after_faults (Err f) rest = Faulty f
after_faults (Ok _) rest = rest

-- "After the faults, a job above T makes the answer long, as for one set."
abbrev pub answered_by : Day → List ℕ → PageAnswer → PageAnswer
answered_by d page rest =
    after_faults (page_verdict d.benches page)
    (cond (ltb (long_job d) d.jobs) (Long (record { job = long_job d })) rest)

-- "an empty page passes"
abbrev pub first_answer : Day → List ℕ → PageAnswer
first_answer d page = answered_by d page Passed

-- "Otherwise the first set that is not blocking is named"
abbrev pub page_answer : Day → List ℕ → PageAnswer
page_answer d page =
    answered_by d page (cond (ltb (first_open d page) (length page)) (NotPassed (first_open d page)) Passed)

-- After the sheet's faults.
unfoldable pub check_page : List ℕ → List ℕ → PageAnswer
check_page s page = elim (read_sheet s) [ refused f ↦ Faulty f | accepted c ↦ page_answer (day_of c) page ]
