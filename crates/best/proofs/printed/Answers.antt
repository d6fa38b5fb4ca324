-- The buffer has more than 65,536 bytes, so what it holds of the input gives the text of the whole input (InputText).
use Prim.Native.Nat.{◌≤◌}
use native.Mathlib.Omega.{arith}
use mathlib.Core.Path.{sym}
use lib.ListN.{length}
use lib.Seq.{length-take-le}
use Rattle.printing.proofs.InputText.{part_text, full_text}
use Rattle.best.specs.Printed.{best_printed}
use Rattle.best.proofs.PrintedLaws.{lines_read}
use Rattle.best.proofs.printed.Goals as goal

pub slice_bounds-text_of-end : goal.slice_bounds-text_of-end
slice_bounds-text_of-end c =
    let whole = c.whole-1 in
    let args = c.args in
    sym (length-take-le args.n args.buffer.now (omega (arith, c.if-n-whole.true, whole.given)))

pub returns-then-n-whole : goal.returns-then-n-whole
returns-then-n-whole c s held =
    let whole = c.whole-1 in
    let args = c.args in
    part_text best_printed lines_read args.buffer.now s args.n (omega (arith, whole.given)) held
    c.text_of.ensures

pub returns : goal.returns
returns c s held =
    let whole = c.whole-1 in
    let args = c.args in
    let full : length args.buffer.now ≤ args.n = omega (arith, c.if-n-whole.false, whole.given) in
    full_text best_printed lines_read args.buffer.now s args.n (omega (arith, whole.given)) held full
    c.text_of-2.ensures
