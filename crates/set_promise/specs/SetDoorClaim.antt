-- What is promised of the check of a set as a C caller sees it: from the bytes of a sheet and a set to the returned
-- word and the bytes of the answer's table (set_check's specs/SetClaim says the same of an answer, the header
-- yinqocha.h says it in words).
--     s                     the bytes of the sheet
--     set                   the set: a number of 64 bits, of which the first bit is bench 0
--     numbers, numbers'     the bytes of the answer's table before and after
--     r                     the returned word: 1 passed, 0 not passed, 2 long, or the word of a fault
--     entry_of t n           entry n of a table: 8 bytes, the lowest first (tables' specs/Tables)
--     in_set set v           bench v is in the set (blocking's specs/Claim)
--     ShortForSet           the sheet is accepted, and the answer's table is too short
--     RoomForSet, CanCheckSet   the sheet is accepted, and the table is large enough
--     JudgedAt              there is room, and the set has a bench, and none but the head's
--     SetDoorClaim          the claim
use Rattle.std.specs.Prelude.{ℕ, ◌≤◌, ◌<◌, ◌≡◌, ◌⊎◌, true, false, List, length, drop}
use Rattle.fields.specs.declared.fault.Fault.{Fault}
use Rattle.fields.specs.declared.fault.Fault.TheVariants.{Table, SetBench}
use Rattle.fields.specs.Contents.{Contents}
use Rattle.frame.specs.Reading.{accepted, refused, read_sheet}
use Rattle.day.specs.Day.{day_of}
use Rattle.demand.specs.Demand.{Assignment, SomeOver, Blocking, LongJob, EachFits, SoundLong}
use Rattle.blocking.specs.Claim.{SheetRefused, OneCase, in_set}
use Rattle.set_check.specs.SetClaim.{Judged}
use Rattle.tables.specs.Tables.{entry_of}
use Rattle.tables.specs.Words.{fault_word}

-- ── the three kinds of calls ──

-- Fault 13: there is no room for the answer's number.
abbrev pub ShortForSet : List ℕ → List ℕ → Type 0
ShortForSet s numbers = (c : Contents) × (read_sheet s ≡ accepted c) × (length numbers < 8)

pub record RoomForSet (s numbers : List ℕ) (c : Contents) : Type 0 where
  pub sheet_accepted : read_sheet s ≡ accepted c
  pub one_number : 8 ≤ length numbers

abbrev pub CanCheckSet : List ℕ → List ℕ → Type 0
CanCheckSet s numbers = (c : Contents) × RoomForSet s numbers c

-- A call without any fault.
pub record JudgedAt (s : List ℕ) (set : ℕ) (numbers : List ℕ) (c : Contents) : Type 0 where
  pub room : RoomForSet s numbers c
  pub judged : Judged s set c

-- ── the word and the table ──

-- Of every row of bytes, every number of 64 bits and any table for the answer.
pub record SetDoorClaim (s : List ℕ) (set : ℕ) (numbers : List ℕ) (r : ℕ) (numbers' : List ℕ) : Type 0 where
  -- Every call is one of three: the sheet is refused, the answer's table is short, or the set can be checked.
  pub one_case : OneCase (SheetRefused s) (ShortForSet s numbers) (CanCheckSet s numbers)
  -- A fault returns its word and writes nothing. First the faults of the sheet, then 13, then 17: "the set is empty or
  -- names a bench not in the head", the lowest.
  pub sheet_refused : (f : Fault) → read_sheet s ≡ refused f → (r ≡ fault_word f) × (numbers' ≡ numbers)
  pub table_short : (c : Contents) → read_sheet s ≡ accepted c → length numbers < 8
      → (r ≡ fault_word (Table 0)) × (numbers' ≡ numbers)
  pub empty_set : (c : Contents) → RoomForSet s numbers c → ((v : ℕ) → in_set set v ≡ false)
      → (r ≡ fault_word (SetBench 0)) × (numbers' ≡ numbers)
  pub foreign_bench : (c : Contents) → RoomForSet s numbers c
      → (v : ℕ) → in_set set v ≡ true → c.head.benches ≤ v
      → ((u : ℕ) → u < v → in_set set u ≡ true → u < c.head.benches)
      → (r ≡ fault_word (SetBench v)) × (numbers' ≡ numbers)
  -- Else the set is judged, or a job is too long.
  pub one_of_three : (c : Contents) → JudgedAt s set numbers c → (r ≡ 0) ⊎ ((r ≡ 1) ⊎ (r ≡ 2))
  -- "If some job exceeds T, the answer to a set is long with the lowest such job", the answer's entry.
  pub long_right : (c : Contents) → JudgedAt s set numbers c → r ≡ 2 → SoundLong (day_of c) (entry_of numbers' 0)
  pub long_given : (c : Contents) → JudgedAt s set numbers c → (j : ℕ) → LongJob (day_of c) j → r ≡ 2
  pub passed_fits : (c : Contents) → JudgedAt s set numbers c → r ≡ 1 → EachFits (day_of c)
  pub not_passed_fits : (c : Contents) → JudgedAt s set numbers c → r ≡ 0 → EachFits (day_of c)
  -- "A set is passed if and only if it is blocking", by the demand's own definition.
  pub passed_blocking : (c : Contents) → JudgedAt s set numbers c → r ≡ 1 → Blocking (day_of c) (in_set set)
  pub blocking_passed : (c : Contents) → JudgedAt s set numbers c → EachFits (day_of c)
      → Blocking (day_of c) (in_set set) → r ≡ 1
  pub not_passed_open : (c : Contents) → JudgedAt s set numbers c → r ≡ 0 → Blocking (day_of c) (in_set set) → ⊥
  -- "A passed set means that the rival has nothing within T"; nor has it after long.
  pub over_after_passed : (c : Contents) → JudgedAt s set numbers c → r ≡ 1
      → (a : ℕ → ℕ) → Assignment (day_of c) a → SomeOver (day_of c) a
  pub over_after_long : (c : Contents) → JudgedAt s set numbers c → r ≡ 2
      → (a : ℕ → ℕ) → Assignment (day_of c) a → SomeOver (day_of c) a
  -- Only long names a job: the answer's entry is 0 after the other two.
  pub zero_unless_long : (c : Contents) → JudgedAt s set numbers c
      → (r ≡ 0) ⊎ (r ≡ 1) → entry_of numbers' 0 ≡ 0
  -- The answer's table keeps what is after its entry.
  pub later_numbers_kept : (c : Contents) → JudgedAt s set numbers c
      → (drop 8 numbers' ≡ drop 8 numbers) × (length numbers' ≡ length numbers)
