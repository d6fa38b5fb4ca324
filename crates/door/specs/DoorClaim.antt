-- Demand 3 as a C caller sees it: from the bytes of a sheet to the returned word and the bytes of the three tables
-- (blocking's specs/Claim says the same of an answer and tables of numbers, the header yinqocha.h says it in words).
--     s                            the bytes of the sheet
--     places, loads, numbers       the bytes of the three tables before
--     places', loads', numbers'    the bytes after
--     r                            the returned word: 1 plan, 2 long, 3 none, or the word of a fault
--     entry_of t n                  entry n of a table: 8 bytes, the lowest first (tables' specs/Tables)
--     NoRoomFor, TablesShort       the sheet is accepted, and a table is too short for it
--     RoomFor, CanAnswer           the sheet is accepted, and the tables are large enough
--     AllKept                      all three tables are as before
--     PlanInBytes                  what holds of the three tables after a plan
--     DoorClaim                    the claim
use Rattle.std.specs.Prelude.{ℕ, ◌*◌, ◌≤◌, ◌<◌, ◌≡◌, ◌⊎◌, true, List, length, drop}
use Rattle.fields.specs.declared.fault.Fault.{Fault}
use Rattle.fields.specs.declared.fault.Fault.TheVariants.{Table}
use Rattle.fields.specs.Contents.{Contents}
use Rattle.frame.specs.Reading.{accepted, refused, read_sheet}
use Rattle.day.specs.Day.{Day, day_of, load_of, within_bound, move_bound}
use Rattle.demand.specs.Demand.{Assignment, keeps_target, SomeOver, LongJob, EachFits, SoundLong}
use Rattle.blocking.specs.Claim.{SheetRefused, OneCase, Untouched, NamedSet}
use Rattle.tables.specs.Tables.{entry_of}
use Rattle.tables.specs.Words.{fault_word}

-- ── the three kinds of calls ──

-- Fault 13: "there are fewer places than jobs, fewer loads than benches, or fewer than three numbers for the answer."
abbrev pub NoRoomFor : Contents → List ℕ → List ℕ → List ℕ → Type 0
NoRoomFor c places loads numbers =
    (length places < 8 * length c.jobs) ⊎ ((length loads < 8 * c.head.benches) ⊎ (length numbers < 24))

abbrev pub TablesShort : List ℕ → List ℕ → List ℕ → List ℕ → Type 0
TablesShort s places loads numbers =
    (c : Contents) × (read_sheet s ≡ accepted c) × NoRoomFor c places loads numbers

-- "Every table must have its room whatever the answer will be: places one entry for each job, loads one for each bench,
-- answer three."
pub record RoomFor (s places loads numbers : List ℕ) (c : Contents) : Type 0 where
  pub sheet_accepted : read_sheet s ≡ accepted c
  pub place_to_a_job : 8 * length c.jobs ≤ length places
  pub load_to_a_bench : 8 * c.head.benches ≤ length loads
  pub three_numbers : 24 ≤ length numbers

abbrev pub CanAnswer : List ℕ → List ℕ → List ℕ → List ℕ → Type 0
CanAnswer s places loads numbers = (c : Contents) × RoomFor s places loads numbers c

-- ── the answers and the tables ──

-- "After a fault all three tables keep their contents."
pub record AllKept (places loads numbers places' loads' numbers' : List ℕ) : Type 0 where
  pub both_tables : Untouched places loads places' loads'
  pub same_numbers : numbers' ≡ numbers

-- "Entry j is the bench of job j. Entry b is the load of bench b in minutes. Later bytes of a table keep their
-- contents."
-- The answer's three entries are the largest load, the moves made, and the fullest bench: the lowest that has the
-- largest load.
pub record PlanInBytes (d : Day) (places loads places' loads' numbers' : List ℕ) : Type 0 where
  pub assignment : Assignment d (entry_of places')
  pub its_loads : (v : ℕ) → v < d.benches → entry_of loads' v ≡ load_of d (entry_of places') v
  pub within_bound : (v : ℕ) → v < d.benches → within_bound d (entry_of loads' v) ≡ true
  pub greatest : (v : ℕ) → v < d.benches → entry_of loads' v ≤ entry_of numbers' 0
  pub one_of_them : (v : ℕ) × (v < d.benches) × (entry_of loads' v ≡ entry_of numbers' 0)
  pub fullest_bench : entry_of numbers' 2 < d.benches
  pub fullest_load : entry_of loads' (entry_of numbers' 2) ≡ entry_of numbers' 0
  pub lower_less : (v : ℕ) → v < entry_of numbers' 2 → entry_of loads' v < entry_of numbers' 0
  pub few_moves : entry_of numbers' 1 ≤ move_bound d
  pub later_places_kept : drop (8 * d.jobs) places' ≡ drop (8 * d.jobs) places
  pub later_loads_kept : drop (8 * d.benches) loads' ≡ drop (8 * d.benches) loads
  pub as_many_places : length places' ≡ length places
  pub as_many_loads : length loads' ≡ length loads

-- The demand, of every row of bytes and any three tables.
pub record DoorClaim (s places loads numbers : List ℕ) (r : ℕ) (places' loads' numbers' : List ℕ) : Type 0 where
  -- Every call is one of three: the sheet is refused, the tables are short, or the sheet can be answered.
  pub one_case : OneCase (SheetRefused s) (TablesShort s places loads numbers) (CanAnswer s places loads numbers)
  -- A fault returns its word and writes to no table. First the faults of the sheet, then fault 13.
  pub sheet_refused : (f : Fault) → read_sheet s ≡ refused f
      → (r ≡ fault_word f) × AllKept places loads numbers places' loads' numbers'
  pub tables_short : (c : Contents) → read_sheet s ≡ accepted c → NoRoomFor c places loads numbers
      → (r ≡ fault_word (Table 0)) × AllKept places loads numbers places' loads' numbers'
  -- Else the answer is one of the three.
  pub one_of_three : (c : Contents) → RoomFor s places loads numbers c → (r ≡ 1) ⊎ ((r ≡ 2) ⊎ (r ≡ 3))
  -- A plan is an assignment, in the tables with its loads, and every load is within the bound.
  pub plan_right : (c : Contents) → RoomFor s places loads numbers c
      → r ≡ 1 → PlanInBytes (day_of c) places loads places' loads' numbers'
  -- Long names the lowest job with more than T minutes.
  pub long_right : (c : Contents) → RoomFor s places loads numbers c
      → r ≡ 2 → SoundLong (day_of c) (entry_of numbers' 0) × (entry_of numbers' 1 ≡ 0)
      × Untouched places loads places' loads'
  -- A job above T gives long; after a plan or a none every job is at most T.
  pub long_given : (c : Contents) → RoomFor s places loads numbers c
      → (j : ℕ) → LongJob (day_of c) j → r ≡ 2
  pub plan_fits : (c : Contents) → RoomFor s places loads numbers c → r ≡ 1 → EachFits (day_of c)
  pub none_fits : (c : Contents) → RoomFor s places loads numbers c → r ≡ 3 → EachFits (day_of c)
  -- None names a blocking set.
  pub none_right : (c : Contents) → RoomFor s places loads numbers c
      → r ≡ 3 → NamedSet (day_of c) (record { set = entry_of numbers' 0; moves = entry_of numbers' 1 })
      × Untouched places loads places' loads'
  -- Only a plan has a fullest bench: the third entry is 0 after long and after none.
  pub no_fullest : (c : Contents) → RoomFor s places loads numbers c
      → (r ≡ 2) ⊎ (r ≡ 3) → entry_of numbers' 2 ≡ 0
  -- The answer's table keeps what is after its three entries.
  pub later_numbers_kept : (c : Contents) → RoomFor s places loads numbers c
      → (drop 24 numbers' ≡ drop 24 numbers) × (length numbers' ≡ length numbers)
  -- If any assignment at all keeps every bench within T, a plan is given.
  pub rival_planned : (c : Contents) → RoomFor s places loads numbers c
      → (a : ℕ → ℕ) → Assignment (day_of c) a → keeps_target (day_of c) a ≡ true → r ≡ 1
  -- After long or none every assignment leaves some bench above T.
  pub over_after_long : (c : Contents) → RoomFor s places loads numbers c
      → r ≡ 2 → (a : ℕ → ℕ) → Assignment (day_of c) a → SomeOver (day_of c) a
  pub over_after_none : (c : Contents) → RoomFor s places loads numbers c
      → r ≡ 3 → (a : ℕ → ℕ) → Assignment (day_of c) a → SomeOver (day_of c) a
