-- Demand 3: from the bytes of a sheet to the answer and both tables (document 01, "The three answers").
--     s                        the bytes of the sheet
--     places, loads            the two tables before; places' and loads' are the tables after
--     r                        the planner's answer
--     SheetRefused             the sheet has a fault
--     ShortFor, TablesShort    the sheet is accepted, and a table is too short for it
--     Answerable, CanAnswer    the sheet is accepted, and the tables are large enough
--     OneCase A B C            one of three holds, and no two of them do
--     Untouched                both tables are as before
--     OneOfThree r             the answer is one of the three
--     in_set set v              bench v is in the set that a none names
--     PlanInTables             what holds of a plan and both tables
--     NamedSet                 what holds of the set and the moves of a none
--     PlannerClaim             the claim
use Rattle.std.specs.Prelude.{ℕ, ◌^◌, ◌≤◌, ◌<◌, ◌≡◌, ◌⊎◌, Bool, true, List, length, get_or, drop}
use Rattle.bits.specs.Bits.{is_set}
use Rattle.fields.specs.declared.fault.Fault.{Fault}
use Rattle.fields.specs.declared.fault.Fault.TheVariants.{Table}
use Rattle.fields.specs.Contents.{Contents}
use Rattle.frame.specs.Reading.{accepted, refused, read_sheet}
use Rattle.day.specs.Day.{Day, day_of, place_in, load_of, within_bound, move_bound}
use Rattle.demand.specs.Demand.{Assignment, keeps_target, SomeOver, Blocking, LongJob, EachFits, SoundLong}
use Rattle.answers.specs.declared.answer.Answer.{Answer}
use Rattle.answers.specs.declared.answer.Answer.TheVariants.{Plan, Long, None, Fault as Faulty}
use Rattle.answers.specs.declared.answer.PlanAnswer.{PlanAnswer}
use Rattle.answers.specs.declared.answer.LongAnswer.{LongAnswer}
use Rattle.answers.specs.declared.answer.NoneAnswer.{NoneAnswer}

-- ── the three kinds of calls ──

-- A sheet with a fault.
abbrev pub SheetRefused : List ℕ → Type 0
SheetRefused s = (f : Fault) × (read_sheet s ≡ refused f)

-- "The table of places is shorter than the jobs, or the table of loads shorter than the benches"
abbrev pub ShortFor : Contents → List ℕ → List ℕ → Type 0
ShortFor c places loads = (length places < length c.jobs) ⊎ (length loads < c.head.benches)

abbrev pub TablesShort : List ℕ → List ℕ → List ℕ → Type 0
TablesShort s places loads = (c : Contents) × (read_sheet s ≡ accepted c) × ShortFor c places loads

-- "A sheet is accepted if it has none of the sheet's faults; tables are large enough if fault 13 is not there either."
pub record Answerable (s places loads : List ℕ) (c : Contents) : Type 0 where
  pub sheet_accepted : read_sheet s ≡ accepted c
  pub place_to_a_job : length c.jobs ≤ length places
  pub load_to_a_bench : c.head.benches ≤ length loads

abbrev pub CanAnswer : List ℕ → List ℕ → List ℕ → Type 0
CanAnswer s places loads = (c : Contents) × Answerable s places loads c

pub record OneCase (A B C : Type 0) : Type 0 where
  pub some : A ⊎ (B ⊎ C)
  pub not_first_second : A → B → ⊥
  pub not_first_third : A → C → ⊥
  pub not_second_third : B → C → ⊥

-- ── the answers and the tables ──

-- "Tables untouched."
pub record Untouched (places loads places' loads' : List ℕ) : Type 0 where
  pub same_places : places' ≡ places
  pub same_loads : loads' ≡ loads

-- "The answer is then one of the three."
pub data OneOfThree : Answer → Type 0 where
  a_plan : (p : PlanAnswer) → OneOfThree (Plan p)
  a_long : (l : LongAnswer) → OneOfThree (Long l)
  a_none : (n : NoneAnswer) → OneOfThree (None n)

-- "A plan is the assignment in the first table, the second table has its loads, and the largest load is the greatest
-- of them." "Entry j of the first table is job j's bench, entry b of the second is bench b's load; later entries keep
-- their contents."
pub record PlanInTables (d : Day) (p : PlanAnswer) (places loads places' loads' : List ℕ) : Type 0 where
  pub assignment : Assignment d (place_in places')
  pub its_loads : (v : ℕ) → v < d.benches → get_or loads' v 0 ≡ load_of d (place_in places') v
  pub within_bound : (v : ℕ) → v < d.benches → within_bound d (get_or loads' v 0) ≡ true
  pub greatest : (v : ℕ) → v < d.benches → get_or loads' v 0 ≤ p.largest
  pub one_of_them : (v : ℕ) × (v < d.benches) × (get_or loads' v 0 ≡ p.largest)
  -- Request S-2: the fullest bench is a bench of the head, has the largest load, and every lower bench has less.
  pub fullest_bench : p.fullest < d.benches
  pub fullest_load : get_or loads' p.fullest 0 ≡ p.largest
  pub lower_less : (v : ℕ) → v < p.fullest → get_or loads' v 0 < p.largest
  pub few_moves : p.moves ≤ move_bound d
  pub later_places_kept : drop d.jobs places' ≡ drop d.jobs places
  pub later_loads_kept : drop d.benches loads' ≡ drop d.benches loads
  pub as_many_places : length places' ≡ length places
  pub as_many_loads : length loads' ≡ length loads

-- A set of benches is a number of 64 bits, as in a job: "the first bit is bench 0".
abbrev pub in_set : ℕ → ℕ → Bool
in_set set v = is_set 64 set v

-- "None: a blocking set and the moves made." A blocking set is not empty.
pub record NamedSet (d : Day) (n : NoneAnswer) : Type 0 where
  pub of_64_bits : n.set < 2 ^ 64
  pub of_the_head : (v : ℕ) → in_set n.set v ≡ true → v < d.benches
  pub blocking : Blocking d (in_set n.set)
  pub few_moves : n.moves ≤ move_bound d

-- The demand, of every row of bytes and any two tables. The day of an accepted sheet is that of its contents, day_of c.
pub record PlannerClaim (s places loads : List ℕ) (r : Answer) (places' loads' : List ℕ) : Type 0 where
  -- Every call is one of three: the sheet is refused, the tables are short, or the sheet can be answered.
  pub one_case : OneCase (SheetRefused s) (TablesShort s places loads) (CanAnswer s places loads)
  -- "A fault returns its number and place and writes to no table." First the faults of the sheet, then fault 13.
  pub sheet_refused : (f : Fault) → read_sheet s ≡ refused f → (r ≡ Faulty f) × Untouched places loads places' loads'
  pub tables_short : (c : Contents) → read_sheet s ≡ accepted c → ShortFor c places loads
      → (r ≡ Faulty (Table 0)) × Untouched places loads places' loads'
  -- Else the answer is one of the three.
  pub one_of_three : (c : Contents) → Answerable s places loads c → OneOfThree r
  -- A plan is an assignment, in the tables with its loads, and every load is within the bound.
  pub plan_right : (c : Contents) → Answerable s places loads c
      → (p : PlanAnswer) → r ≡ Plan p → PlanInTables (day_of c) p places loads places' loads'
  -- Long names the lowest job with more than T minutes.
  pub long_right : (c : Contents) → Answerable s places loads c
      → (l : LongAnswer) → r ≡ Long l → SoundLong (day_of c) l.job × Untouched places loads places' loads'
  -- A job above T gives long; after a plan or a none every job is at most T.
  pub long_given : (c : Contents) → Answerable s places loads c
      → (j : ℕ) → LongJob (day_of c) j → (l : LongAnswer) × (r ≡ Long l)
  pub plan_fits : (c : Contents) → Answerable s places loads c → (p : PlanAnswer) → r ≡ Plan p → EachFits (day_of c)
  pub none_fits : (c : Contents) → Answerable s places loads c → (n : NoneAnswer) → r ≡ None n → EachFits (day_of c)
  -- None names a blocking set.
  pub none_right : (c : Contents) → Answerable s places loads c
      → (n : NoneAnswer) → r ≡ None n → NamedSet (day_of c) n × Untouched places loads places' loads'
  -- If any assignment at all keeps every bench within T, a plan is given.
  pub rival_planned : (c : Contents) → Answerable s places loads c
      → (a : ℕ → ℕ) → Assignment (day_of c) a → keeps_target (day_of c) a ≡ true → (p : PlanAnswer) × (r ≡ Plan p)
  -- After long or none every assignment leaves some bench above T.
  pub over_after_long : (c : Contents) → Answerable s places loads c
      → (l : LongAnswer) → r ≡ Long l → (a : ℕ → ℕ) → Assignment (day_of c) a → SomeOver (day_of c) a
  pub over_after_none : (c : Contents) → Answerable s places loads c
      → (n : NoneAnswer) → r ≡ None n → (a : ℕ → ℕ) → Assignment (day_of c) a → SomeOver (day_of c) a
