-- The lines of what is answered and of the places written are those of the sheet, and they fit (PrintedLaws).
use native.Mathlib.Omega.{arith}
use mathlib.Core.Path.{sym}
use lib.Seq.{length-take-le}
use Rattle.answers.proofs.FilledLaws.{best_fit}
use Rattle.best.proofs.PrintedLaws.{printed_text, text_printed}
use borrow.Author.Rules.{rules}
use Rattle.best.proofs.text_of.Goals as goal

pub slice_bounds-places-end : goal.slice_bounds-places-end
slice_bounds-places-end c = best_fit c.best-filled.ensures.equation

pub slice_bounds-best_text-end : goal.slice_bounds-best_text-end
slice_bounds-best_text-end c =
    let best = c.best-filled in
    sym (length-take-le best.result.places best.new.places (best_fit best.ensures.equation))

pub returns : goal.returns
returns c =
    let best = c.best-filled in
    let s = c.args.s.now in
    text_printed s (printed_text s best.ensures.equation (search rules) (search rules)) c.best_text.ensures
    (omega (arith, c.best_text-arg-1.given))
