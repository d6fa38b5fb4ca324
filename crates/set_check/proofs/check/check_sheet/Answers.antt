-- What comes before the judgement, and the judgement (CheckRun).
use mathlib.Core.Path.{refl, sym, ◌∙◌}
use Rattle.day.specs.Day.{day_of}
use Rattle.planning.proofs.SheetRun.{day_lent}
use Rattle.set_check.proofs.CheckRun.{early, weighed, of_the_day, judged_passed, judged-not}
use Rattle.set_check.proofs.check.check_sheet.Goals as goal

pub returns-in_default : goal.returns-in_default
returns-in_default c bytes sheet read same =
    let d = day_of sheet in
    let L = day_lent bytes sheet c.args.s read same c.to_numbers.ensures refl refl in
    early d c.args.set c.first_answer-first.result (c.first_answer-first.ensures d _ L.fields L.benches_are L.target_is)
    c.in_default.not-NotPassed

pub returns-then-blocks : goal.returns-then-blocks
returns-then-blocks c bytes sheet read same =
    let d = day_of sheet in
    let L = day_lent bytes sheet c.args.s read same c.to_numbers.ensures c.to_numbers-2.ensures c.to_numbers-3.ensures in
    let yet = sym c.in-NotPassed.is ∙ c.first_answer-first.ensures d _ L.fields L.benches_are L.target_is in
    judged_passed d c.args.set yet
    (c.blocks-2.ensures d (weighed d c.args.set yet c.args.s.head c.args.s.count _ _ _ L)
    (of_the_day d c.args.set yet c.ranges.set.fits))
    c.if-blocks.true

pub returns : goal.returns
returns c bytes sheet read same =
    let d = day_of sheet in
    let L = day_lent bytes sheet c.args.s read same c.to_numbers.ensures c.to_numbers-2.ensures c.to_numbers-3.ensures in
    let yet = sym c.in-NotPassed.is ∙ c.first_answer-first.ensures d _ L.fields L.benches_are L.target_is in
    judged-not d c.args.set yet
    (c.blocks-2.ensures d (weighed d c.args.set yet c.args.s.head c.args.s.count _ _ _ L)
    (of_the_day d c.args.set yet c.ranges.set.fits))
    c.if-blocks.false
