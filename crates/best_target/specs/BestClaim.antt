-- What is promised of the best target: from the bytes of a sheet to the answer and both tables (request S-4).
--     s                  the bytes of the sheet
--     places, loads      the two tables before; places' and loads' are the tables after
--     r                  the answer
--     BestClaim          the claim; its calls and tables are those of blocking's specs/Claim
--     retargeted c t     what a sheet holds, with t typed as its target
use Rattle.std.specs.Prelude.{ℕ, ◌≡◌, List}
use Rattle.fields.specs.declared.fault.Fault.{Fault}
use Rattle.fields.specs.declared.fault.Fault.TheVariants.{Table}
use Rattle.fields.specs.Contents.{Contents}
use Rattle.frame.specs.Reading.{accepted, refused, read_sheet}
use Rattle.day.specs.Day.{day_of, with_target}
use Rattle.answers.specs.declared.best.BestAnswer.{BestAnswer}
use Rattle.answers.specs.declared.best.BestAnswer.TheVariants.{Best, Fault as Faulty}
use Rattle.answers.specs.declared.best.BestPlan.{BestPlan}
use Rattle.argument.specs.Best.{StartPlanned, Vouched}
use Rattle.blocking.specs.Claim.{SheetRefused, ShortFor, TablesShort, Answerable, CanAnswer, OneCase, Untouched}
use Rattle.blocking.specs.Claim.{PlanInTables}

-- Of every row of bytes and any two tables. The day of an accepted sheet is that of its contents, day_of c; its own
-- target is not looked at.
pub record BestClaim (s places loads : List ℕ) (r : BestAnswer) (places' loads' : List ℕ) : Type 0 where
  -- Every call is one of three: the sheet is refused, the tables are short, or the sheet can be answered.
  pub one_case : OneCase (SheetRefused s) (TablesShort s places loads) (CanAnswer s places loads)
  -- "A fault returns its number and place and writes to no table." First the faults of the sheet, then fault 13.
  pub sheet_refused : (f : Fault) → read_sheet s ≡ refused f → (r ≡ Faulty f) × Untouched places loads places' loads'
  pub tables_short : (c : Contents) → read_sheet s ≡ accepted c → ShortFor c places loads
      → (r ≡ Faulty (Table 0)) × Untouched places loads places' loads'
  -- "The search starts at the total of all minutes plus the largest booking, where a plan always exists."
  pub start_planned : (c : Contents) → Answerable s places loads c → StartPlanned (day_of c)
  -- So there is always a target with its plan.
  pub best_given : (c : Contents) → Answerable s places loads c → (b : BestPlan) × (r ≡ Best b)
  -- The target is one that can be vouched for.
  pub vouched : (c : Contents) → Answerable s places loads c → (b : BestPlan) → r ≡ Best b → Vouched (day_of c) b
  -- Its plan is in the tables, and all that demand 3 says of a plan holds of it, with that target for T.
  pub plan_right : (c : Contents) → Answerable s places loads c → (b : BestPlan) → r ≡ Best b
      → PlanInTables (with_target (day_of c) b.target) b.plan places loads places' loads'

-- A planner's sheet with another target typed in: its day is with_target (day_of c) t.
abbrev pub retargeted : Contents → ℕ → Contents
retargeted c t =
    record {
      head = record { benches = c.head.benches; p = c.head.p; q = c.head.q; target = t };
      booked = c.booked;
      jobs = c.jobs;
    }
