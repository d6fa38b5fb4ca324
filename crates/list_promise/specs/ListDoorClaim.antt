-- What is promised of the check of a list as a C caller sees it: from the bytes of a sheet and of a list to the
-- returned word and the bytes of the answer's table (list_check's specs/ListClaim says the same of an answer and a list
-- of numbers, the header yinqocha.h says it in words).
--     s                     the bytes of the sheet
--     places                the bytes of the list: entry j is job j's bench, and a begun entry counts
--     numbers, numbers'     the bytes of the answer's table before and after
--     r                     the returned word: 1 passed, 0 not passed, or the word of a fault
--     entries_of t, entry_of t n     how many entries a table has; entry n, 8 bytes, the lowest first (tables'
--                           specs/Tables)
--     ShortForList          the sheet is accepted, and the answer's table is too short
--     RoomForList, CanCheckList     the sheet is accepted, and the table is large enough
--     ListDoorClaim         the claim; GoodPlaces, BadPlaces and GreatestLoad are list_check's
use Rattle.std.specs.Prelude.{ℕ, ◌≤◌, ◌<◌, ◌≡◌, ◌≢◌, List, length, drop}
use Rattle.fields.specs.declared.fault.Fault.{Fault}
use Rattle.fields.specs.declared.fault.Fault.TheVariants.{Table, PlaceCount}
use Rattle.fields.specs.Contents.{Contents}
use Rattle.frame.specs.Reading.{accepted, refused, read_sheet}
use Rattle.day.specs.Day.{day_of}
use Rattle.blocking.specs.Claim.{SheetRefused, OneCase}
use Rattle.list_check.specs.ListClaim.{GoodPlaces, BadPlaces, GreatestLoad}
use Rattle.tables.specs.Tables.{entries_of, entry_of}
use Rattle.tables.specs.Words.{fault_word}

-- ── the three kinds of calls ──

-- Fault 13: there is no room for the answer's two numbers.
abbrev pub ShortForList : List ℕ → List ℕ → Type 0
ShortForList s numbers = (c : Contents) × (read_sheet s ≡ accepted c) × (length numbers < 16)

pub record RoomForList (s numbers : List ℕ) (c : Contents) : Type 0 where
  pub sheet_accepted : read_sheet s ≡ accepted c
  pub two_numbers : 16 ≤ length numbers

abbrev pub CanCheckList : List ℕ → List ℕ → Type 0
CanCheckList s numbers = (c : Contents) × RoomForList s numbers c

-- ── the word and the table ──

-- Of every row of bytes, every list and any table for the answer.
pub record ListDoorClaim (s places numbers : List ℕ) (r : ℕ) (numbers' : List ℕ) : Type 0 where
  -- Every call is one of three: the sheet is refused, the answer's table is short, or the list can be checked.
  pub one_case : OneCase (SheetRefused s) (ShortForList s numbers) (CanCheckList s numbers)
  -- A fault returns its word and writes nothing. First the faults of the sheet, then 13, then 16.
  pub sheet_refused : (f : Fault) → read_sheet s ≡ refused f → (r ≡ fault_word f) × (numbers' ≡ numbers)
  pub table_short : (c : Contents) → read_sheet s ≡ accepted c → length numbers < 16
      → (r ≡ fault_word (Table 0)) × (numbers' ≡ numbers)
  pub other_count : (c : Contents) → RoomForList s numbers c → entries_of places ≢ length c.jobs
      → (r ≡ fault_word PlaceCount) × (numbers' ≡ numbers)
  -- "A list is passed if and only if each job is on an allowed bench and no load exceeds the bound".
  pub passed_good : (c : Contents) → RoomForList s numbers c
      → r ≡ 1 → GoodPlaces (day_of c) (entries_of places) (entry_of places)
  pub good_passed : (c : Contents) → RoomForList s numbers c
      → GoodPlaces (day_of c) (entries_of places) (entry_of places) → r ≡ 1
  -- The answer's two entries are the largest load, and the lowest bench that has it.
  pub passed_with : (c : Contents) → RoomForList s numbers c
      → r ≡ 1 → GreatestLoad (day_of c) (entry_of places) (entry_of numbers' 0) (entry_of numbers' 1)
  -- What is left is not passed, and nothing else; then both entries are 0.
  pub not_passed_bad : (c : Contents) → RoomForList s numbers c
      → r ≡ 0 → BadPlaces (day_of c) (entries_of places) (entry_of places)
  pub bad_not_passed : (c : Contents) → RoomForList s numbers c
      → BadPlaces (day_of c) (entries_of places) (entry_of places) → r ≡ 0
  pub not_passed_with : (c : Contents) → RoomForList s numbers c
      → r ≡ 0 → (entry_of numbers' 0 ≡ 0) × (entry_of numbers' 1 ≡ 0)
  -- The answer's table keeps what is after its two entries.
  pub later_numbers_kept : (c : Contents) → RoomForList s numbers c
      → (drop 16 numbers' ≡ drop 16 numbers) × (length numbers' ≡ length numbers)
