-- What is promised of the best target as a C caller sees it: from the bytes of a sheet to the returned word and the
-- bytes of the three tables (best_target's specs/BestClaim says the same of an answer and tables of numbers, the header
-- yinqocha.h says it in words).
--     s                            the bytes of the sheet
--     places, loads, numbers       the bytes of the three tables before
--     places', loads', numbers'    the bytes after
--     r                            the returned word: 1 best, or the word of a fault
--     entry_of t n                  entry n of a table: 8 bytes, the lowest first (tables' specs/Tables)
--     NoRoomForBest, ShortForBest      the sheet is accepted, and a table is too short for it
--     RoomForBest, CanAnswerBest       the sheet is accepted, and the tables are large enough
--     best_in numbers              the target, its plan and the targets run, as the answer's table has them
--     BestDoorClaim                the claim; AllKept and PlanInBytes are those of planning (door's specs/DoorClaim)
use Rattle.std.specs.Prelude.{ℕ, ◌*◌, ◌≤◌, ◌<◌, ◌≡◌, ◌⊎◌, List, length, drop}
use Rattle.fields.specs.declared.fault.Fault.{Fault}
use Rattle.fields.specs.declared.fault.Fault.TheVariants.{Table}
use Rattle.fields.specs.Contents.{Contents}
use Rattle.frame.specs.Reading.{accepted, refused, read_sheet}
use Rattle.day.specs.Day.{day_of, with_target}
use Rattle.answers.specs.declared.best.BestPlan.{BestPlan}
use Rattle.answers.specs.BestAnswers.{best_of}
use Rattle.argument.specs.Best.{StartPlanned, Vouched}
use Rattle.blocking.specs.Claim.{SheetRefused, OneCase}
use Rattle.tables.specs.Tables.{entry_of}
use Rattle.tables.specs.Words.{fault_word}
use Rattle.door.specs.DoorClaim.{AllKept, PlanInBytes}

-- ── the three kinds of calls ──

-- Fault 13: "there are fewer places than jobs, fewer loads than benches, or fewer than five numbers for the answer."
abbrev pub NoRoomForBest : Contents → List ℕ → List ℕ → List ℕ → Type 0
NoRoomForBest c places loads numbers =
    (length places < 8 * length c.jobs) ⊎ ((length loads < 8 * c.head.benches) ⊎ (length numbers < 40))

abbrev pub ShortForBest : List ℕ → List ℕ → List ℕ → List ℕ → Type 0
ShortForBest s places loads numbers =
    (c : Contents) × (read_sheet s ≡ accepted c) × NoRoomForBest c places loads numbers

-- "Every table must have its room whatever the answer will be: places one entry for each job, loads one for each bench,
-- answer five."
pub record RoomForBest (s places loads numbers : List ℕ) (c : Contents) : Type 0 where
  pub sheet_accepted : read_sheet s ≡ accepted c
  pub place_to_a_job : 8 * length c.jobs ≤ length places
  pub load_to_a_bench : 8 * c.head.benches ≤ length loads
  pub five_numbers : 40 ≤ length numbers

abbrev pub CanAnswerBest : List ℕ → List ℕ → List ℕ → List ℕ → Type 0
CanAnswerBest s places loads numbers = (c : Contents) × RoomForBest s places loads numbers c

-- ── the answer and the tables ──

-- The answer's five entries are the target, the largest load of its plan, the moves made, the fullest bench, and how
-- many targets were run.
abbrev pub best_in : List ℕ → BestPlan
best_in numbers =
    best_of (entry_of numbers 0) (entry_of numbers 1) (entry_of numbers 2) (entry_of numbers 3) (entry_of numbers 4)

-- Of every row of bytes and any three tables. The sheet's own target is not looked at.
pub record BestDoorClaim (s places loads numbers : List ℕ) (r : ℕ) (places' loads' numbers' : List ℕ) : Type 0 where
  -- Every call is one of three: the sheet is refused, the tables are short, or the sheet can be answered.
  pub one_case : OneCase (SheetRefused s)
      (ShortForBest s places loads numbers) (CanAnswerBest s places loads numbers)
  -- A fault returns its word and writes to no table. First the faults of the sheet, then fault 13.
  pub sheet_refused : (f : Fault) → read_sheet s ≡ refused f
      → (r ≡ fault_word f) × AllKept places loads numbers places' loads' numbers'
  pub tables_short : (c : Contents) → read_sheet s ≡ accepted c → NoRoomForBest c places loads numbers
      → (r ≡ fault_word (Table 0)) × AllKept places loads numbers places' loads' numbers'
  -- "The search starts at the total of all minutes plus the largest booking, where a plan always exists."
  pub start_planned : (c : Contents) → RoomForBest s places loads numbers c → StartPlanned (day_of c)
  -- So there is always a target with its plan.
  pub best_given : (c : Contents) → RoomForBest s places loads numbers c → r ≡ 1
  -- The target is one that can be vouched for.
  pub vouched : (c : Contents) → RoomForBest s places loads numbers c → Vouched (day_of c) (best_in numbers')
  -- Its plan is in the tables, and all that demand 3 says of a plan holds of it, with that target for T: behind the
  -- target stand the largest load, the moves and the fullest bench, as after a plan.
  pub plan_right : (c : Contents) → RoomForBest s places loads numbers c
      → PlanInBytes (with_target (day_of c) (entry_of numbers' 0)) places loads places' loads' (drop 8 numbers')
  -- The answer's table keeps what is after its five entries.
  pub later_numbers_kept : (c : Contents) → RoomForBest s places loads numbers c
      → (drop 40 numbers' ≡ drop 40 numbers) × (length numbers' ≡ length numbers)
