-- What was loaded are the first 64 entries of the table of bookings. Where those behind them are 0, the writer gives
-- the same for them as for all; else the first that is not 0 is refused.
use mathlib.Core.Path.{refl, sym, ap, ◌∙◌}
use Rattle.std.specs.Prelude.{Err}
use Rattle.std.specs.Result.{result_and}
use Rattle.fields.specs.declared.fault.Fault.TheVariants.{BookedBench}
use Rattle.fields.specs.Contents.{no_bookings}
use Rattle.fields.specs.Tests.{Verdict}
use Rattle.tables.proofs.TableSteps.{loaded_front}
use Rattle.write_door.proofs.WriteSteps.{sheet_near, sheet_far}
use Rattle.write_door.proofs.call.write_sheet.Goals as goal

pub returns-in-Some : goal.returns-in-Some
returns-in-Some c =
    let day = loaded_front c.args.booked.now no_bookings c.load-n.result refl c.load-n.ensures.counted
    c.load-n.ensures.loaded in
    let and = c.and.ensures ∙ ap (λ (v : Verdict). result_and v (Err (BookedBench c.in-Some.far))) c.check_opening.ensures in
    let whole = sheet_far c.args.h c.args.booked.now c.args.minutes.now c.args.allowed.now c.args.out.now day
    (sym c.first_from.ensures ∙ c.in-Some.is) and in
    record { written = whole.0; output = whole.1 }

pub returns : goal.returns
returns c =
    let day = loaded_front c.args.booked.now no_bookings c.load-n.result refl c.load-n.ensures.counted
    c.load-n.ensures.loaded in
    let whole = sheet_near c.args.h c.args.booked.now c.args.minutes.now c.args.allowed.now c.args.out.now day
    (sym c.first_from.ensures ∙ c.in_default.is) c.write_jobs.ensures.written c.write_jobs.ensures.output in
    record { written = whole.0; output = whole.1 }
