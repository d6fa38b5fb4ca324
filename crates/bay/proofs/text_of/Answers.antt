-- The lines of what is answered and of the places written are those of the sheet, and they fit (PrintedLaws).
use native.Mathlib.Omega.{arith}
use mathlib.Core.Path.{sym}
use lib.Seq.{length-take-le}
use Rattle.answers.proofs.FilledLaws.{written_fit}
use Rattle.bay.proofs.PrintedLaws.{printed_text, text_printed}
use borrow.Author.Rules.{rules}
use Rattle.bay.proofs.text_of.Goals as goal

pub slice_bounds-places-end : goal.slice_bounds-places-end
slice_bounds-places-end c = written_fit c.plan-filled.ensures.equation

pub slice_bounds-text-end : goal.slice_bounds-text-end
slice_bounds-text-end c =
    let plan = c.plan-filled in
    sym (length-take-le plan.result.places plan.new.places (written_fit plan.ensures.equation))

pub returns : goal.returns
returns c =
    let plan = c.plan-filled in
    let s = c.args.s.now in
    text_printed s (printed_text s plan.ensures.equation (search rules) (search rules)) c.text.ensures
    (omega (arith, c.text-arg-1.given))
