-- What comes before the judgement, and the judgement (PageRun).
use mathlib.Core.Path.{refl, sym, ◌∙◌}
use Rattle.day.specs.Day.{day_of}
use Rattle.planning.proofs.SheetRun.{day_lent}
use Rattle.set_check.proofs.CheckRun.{weighs_lent}
use Rattle.page_check.proofs.PageRun.{early, nothing_found, none-unfit, answer_open, answer_passed}
use Rattle.page_check.proofs.check.check_sheet.Goals as goal

pub returns-in_default : goal.returns-in_default
returns-in_default c bytes sheet read same =
    let d = day_of sheet in
    let L = day_lent bytes sheet c.args.s read same c.to_numbers.ensures refl refl in
    early d c.args.page.now c.first_answer-first.result
    (c.first_answer-first.ensures d _ L.fields L.benches_are L.target_is) c.in_default.not-Passed

pub returns-in-Some : goal.returns-in-Some
returns-in-Some c bytes sheet read same =
    let d = day_of sheet in
    let page = c.args.page.now in
    let L =
    day_lent bytes sheet c.args.s read same c.to_numbers.ensures c.to_numbers-2.ensures
    c.to_numbers-3.ensures in
    let yet =
    sym c.in-Passed.is
    ∙ c.first_answer-first.ensures d _ L.fields L.benches_are L.target_is in
    let W = weighs_lent d (nothing_found d page yet).1 c.args.s.head c.args.s.count _ _ _ L 0 in
    answer_open d page yet (c.first_open.ensures d W (none-unfit d page yet)) c.in-Some.is

pub returns-in-None : goal.returns-in-None
returns-in-None c bytes sheet read same =
    let d = day_of sheet in
    let page = c.args.page.now in
    let L =
    day_lent bytes sheet c.args.s read same c.to_numbers.ensures c.to_numbers-2.ensures
    c.to_numbers-3.ensures in
    let yet =
    sym c.in-Passed.is
    ∙ c.first_answer-first.ensures d _ L.fields L.benches_are L.target_is in
    let W = weighs_lent d (nothing_found d page yet).1 c.args.s.head c.args.s.count _ _ _ L 0 in
    answer_passed d page yet (c.first_open.ensures d W (none-unfit d page yet)) c.in-None.is
