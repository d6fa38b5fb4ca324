-- What is promised of the check of a page as a C caller sees it: from the bytes of a sheet and of a page to the
-- returned word and the bytes of the answer's table (page_check's specs/PageClaim says the same of an answer and a list
-- of numbers, the header yinqocha.h says it in words).
--     s                     the bytes of the sheet
--     page                  the bytes of the page: entry i is set i, a number of 64 bits, of which the first bit is
--                           bench 0; a begun entry counts
--     numbers_of page       its sets (tables' specs/Tables)
--     entry_of t n           entry n of a table: 8 bytes, the lowest first
--     numbers, numbers'     the bytes of the answer's table before and after
--     r                     the returned word: 1 passed, 0 not passed, 2 long, or the word of a fault
--     JudgedPageAt          there is room for the answer, and the page has no fault
--     PageDoorClaim         the claim; ProperSet and the other words of a page are page_check's; RoomForSet, the sheet
--                           is accepted and the table is large enough, and its two neighbours are set_promise's
use Rattle.std.specs.Prelude.{ℕ, ◌<◌, ◌≡◌, ◌⊎◌, List, length, drop}
use Rattle.fields.specs.declared.fault.Fault.{Fault}
use Rattle.fields.specs.declared.fault.Fault.TheVariants.{Table, SetBench, SharedBench}
use Rattle.fields.specs.Contents.{Contents}
use Rattle.frame.specs.Reading.{accepted, refused, read_sheet}
use Rattle.day.specs.Day.{day_of}
use Rattle.demand.specs.Demand.{Assignment, SomeOver, Blocking, LongJob, EachFits, SoundLong}
use Rattle.unions.specs.Unions.{union_of}
use Rattle.blocking.specs.Claim.{SheetRefused, OneCase}
use Rattle.page_check.specs.PageClaim.{on_page, ProperSet, ImproperSet, SharesEarlier, Faultless, JudgedPage}
use Rattle.page_check.specs.PageClaim.{GoodPage, FirstOpen}
use Rattle.tables.specs.Tables.{entries_of, entry_of, numbers_of}
use Rattle.tables.specs.Words.{fault_word}
use Rattle.set_promise.specs.SetDoorClaim.{ShortForSet, RoomForSet, CanCheckSet}

-- A call without any fault.
pub record JudgedPageAt (s page numbers : List ℕ) (c : Contents) : Type 0 where
  pub room : RoomForSet s numbers c
  pub judged : JudgedPage s (numbers_of page) c

-- Of every row of bytes, every page and any table for the answer.
pub record PageDoorClaim (s page numbers : List ℕ) (r : ℕ) (numbers' : List ℕ) : Type 0 where
  -- Every call is one of three: the sheet is refused, the answer's table is short, or the page can be checked.
  pub one_case : OneCase (SheetRefused s) (ShortForSet s numbers) (CanCheckSet s numbers)
  -- A fault returns its word and writes nothing. First the faults of the sheet, then 13. Then "Sets are tried for
  -- faults in page order, each for 17 and then for number 18 ...; the place of both is the set's number."
  pub sheet_refused : (f : Fault) → read_sheet s ≡ refused f → (r ≡ fault_word f) × (numbers' ≡ numbers)
  pub table_short : (c : Contents) → read_sheet s ≡ accepted c → length numbers < 8
      → (r ≡ fault_word (Table 0)) × (numbers' ≡ numbers)
  pub improper_set : (c : Contents) → RoomForSet s numbers c
      → (i : ℕ) → i < entries_of page → Faultless c.head.benches (numbers_of page) i
      → ImproperSet c.head.benches (on_page (numbers_of page) i)
      → (r ≡ fault_word (SetBench i)) × (numbers' ≡ numbers)
  pub shared_bench : (c : Contents) → RoomForSet s numbers c
      → (i : ℕ) → i < entries_of page → Faultless c.head.benches (numbers_of page) i
      → ProperSet c.head.benches (on_page (numbers_of page) i) → SharesEarlier (numbers_of page) i
      → (r ≡ fault_word (SharedBench i)) × (numbers' ≡ numbers)
  -- Else the page is judged, or a job is too long; and only then.
  pub one_of_three : (c : Contents) → JudgedPageAt s page numbers c → (r ≡ 0) ⊎ ((r ≡ 1) ⊎ (r ≡ 2))
  pub three_judged : (c : Contents) → RoomForSet s numbers c → (r ≡ 0) ⊎ ((r ≡ 1) ⊎ (r ≡ 2))
      → JudgedPageAt s page numbers c
  -- "After the faults, a job above T makes the answer long, as for one set": the lowest such job, the answer's entry.
  pub long_right : (c : Contents) → JudgedPageAt s page numbers c → r ≡ 2 → SoundLong (day_of c) (entry_of numbers' 0)
  pub long_given : (c : Contents) → JudgedPageAt s page numbers c → (j : ℕ) → LongJob (day_of c) j → r ≡ 2
  pub passed_fits : (c : Contents) → RoomForSet s numbers c → r ≡ 1 → EachFits (day_of c)
  pub not_passed_fits : (c : Contents) → JudgedPageAt s page numbers c → r ≡ 0 → EachFits (day_of c)
  -- "The page is passed if and only if every set on it is blocking and no two share a bench", by the demand's own
  -- definition of blocking.
  pub passed_good : (c : Contents) → RoomForSet s numbers c → r ≡ 1 → GoodPage (day_of c) (numbers_of page)
  pub good_passed : (c : Contents) → RoomForSet s numbers c → EachFits (day_of c)
      → GoodPage (day_of c) (numbers_of page) → r ≡ 1
  -- "Otherwise the first set that is not blocking is named", by the answer's entry.
  pub named_is_first : (c : Contents) → JudgedPageAt s page numbers c → r ≡ 0
      → FirstOpen (day_of c) (numbers_of page) (entry_of numbers' 0)
  pub first_is_named : (c : Contents) → JudgedPageAt s page numbers c → EachFits (day_of c)
      → (i : ℕ) → FirstOpen (day_of c) (numbers_of page) i → (r ≡ 0) × (entry_of numbers' 0 ≡ i)
  -- "an empty page passes"
  pub empty_page : (c : Contents) → RoomForSet s numbers c → EachFits (day_of c) → length page ≡ 0 → r ≡ 1
  -- "the union of a passed page with at least one set is blocking", so the rival has nothing within T; nor has it after
  -- long.
  pub union_blocks : (c : Contents) → RoomForSet s numbers c → r ≡ 1 → 0 < length page
      → Blocking (day_of c) (union_of (entries_of page) (on_page (numbers_of page)))
  pub over_after_passed : (c : Contents) → RoomForSet s numbers c → r ≡ 1 → 0 < length page
      → (a : ℕ → ℕ) → Assignment (day_of c) a → SomeOver (day_of c) a
  pub over_after_long : (c : Contents) → RoomForSet s numbers c → r ≡ 2
      → (a : ℕ → ℕ) → Assignment (day_of c) a → SomeOver (day_of c) a
  -- A page that passed names nothing: the answer's entry is 0.
  pub zero_after_passed : (c : Contents) → RoomForSet s numbers c → r ≡ 1 → entry_of numbers' 0 ≡ 0
  -- The answer's table keeps what is after its entry.
  pub later_numbers_kept : (c : Contents) → JudgedPageAt s page numbers c
      → (drop 8 numbers' ≡ drop 8 numbers) × (length numbers' ≡ length numbers)
