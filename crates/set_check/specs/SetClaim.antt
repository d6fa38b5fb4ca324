-- What is promised of the check of a set, as facts (request S-6).
--     in_set set v           bench v is in the set (blocking's specs/Claim)
--     Judged s set c        the sheet is accepted, and the set has a bench, and none but the head's
--     OneOfThree r          passed, long, or not passed
--     SetClaim s set r      the claim, of the sheet s, the set and the answer r
use Rattle.std.specs.Prelude.{ℕ, ◌≤◌, ◌<◌, ◌≡◌, true, false, List}
use Rattle.fields.specs.declared.fault.Fault.{Fault}
use Rattle.fields.specs.declared.fault.Fault.TheVariants.{SetBench}
use Rattle.fields.specs.Contents.{Contents}
use Rattle.frame.specs.Reading.{accepted, refused, read_sheet}
use Rattle.day.specs.Day.{day_of}
use Rattle.demand.specs.Demand.{Assignment, SomeOver, Blocking, LongJob, EachFits, SoundLong}
use Rattle.answers.specs.declared.answer.LongAnswer.{LongAnswer}
use Rattle.answers.specs.declared.check.SetAnswer.{SetAnswer}
use Rattle.answers.specs.declared.check.SetAnswer.TheVariants.{Passed, Long, NotPassed, Fault as Faulty}
use Rattle.blocking.specs.Claim.{in_set}

pub record Judged (s : List ℕ) (set : ℕ) (c : Contents) : Type 0 where
  pub sheet_accepted : read_sheet s ≡ accepted c
  pub some_bench : (v : ℕ) × (in_set set v ≡ true)
  pub of_the_head : (v : ℕ) → in_set set v ≡ true → v < c.head.benches

pub data OneOfThree : SetAnswer → Type 0 where
  it_passed : OneOfThree Passed
  it_is_long : (l : LongAnswer) → OneOfThree (Long l)
  it_did_not_pass : OneOfThree NotPassed

-- Of every row of bytes and every number of 64 bits. The day of an accepted sheet is that of its contents, day_of c.
pub record SetClaim (s : List ℕ) (set : ℕ) (r : SetAnswer) : Type 0 where
  -- First the faults of the sheet, then number 17: "the set is empty or names a bench not in the head", the lowest.
  pub sheet_refused : (f : Fault) → read_sheet s ≡ refused f → r ≡ Faulty f
  pub empty_set : (c : Contents) → read_sheet s ≡ accepted c
      → ((v : ℕ) → in_set set v ≡ false) → r ≡ Faulty (SetBench 0)
  pub foreign_bench : (c : Contents) → read_sheet s ≡ accepted c
      → (v : ℕ) → in_set set v ≡ true → c.head.benches ≤ v
      → ((u : ℕ) → u < v → in_set set u ≡ true → u < c.head.benches) → r ≡ Faulty (SetBench v)
  -- Else the set is judged, or a job is too long.
  pub one_of_three : (c : Contents) → Judged s set c → OneOfThree r
  -- "If some job exceeds T, the answer to a set is long with the lowest such job".
  pub long_right : (c : Contents) → Judged s set c → (l : LongAnswer) → r ≡ Long l → SoundLong (day_of c) l.job
  pub long_given : (c : Contents) → Judged s set c → (j : ℕ) → LongJob (day_of c) j → (l : LongAnswer) × (r ≡ Long l)
  pub passed_fits : (c : Contents) → Judged s set c → r ≡ Passed → EachFits (day_of c)
  pub not_passed_fits : (c : Contents) → Judged s set c → r ≡ NotPassed → EachFits (day_of c)
  -- "A set is passed if and only if it is blocking", by the demand's own definition.
  pub passed_blocking : (c : Contents) → Judged s set c → r ≡ Passed → Blocking (day_of c) (in_set set)
  pub blocking_passed : (c : Contents) → Judged s set c → EachFits (day_of c)
      → Blocking (day_of c) (in_set set) → r ≡ Passed
  pub not_passed_open : (c : Contents) → Judged s set c → r ≡ NotPassed → Blocking (day_of c) (in_set set) → ⊥
  -- "A passed set means that the rival has nothing within T"; nor has it after long.
  pub over_after_passed : (c : Contents) → Judged s set c → r ≡ Passed
      → (a : ℕ → ℕ) → Assignment (day_of c) a → SomeOver (day_of c) a
  pub over_after_long : (c : Contents) → Judged s set c → (l : LongAnswer) → r ≡ Long l
      → (a : ℕ → ℕ) → Assignment (day_of c) a → SomeOver (day_of c) a
