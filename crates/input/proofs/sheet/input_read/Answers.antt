-- The buffer has more than 65,536 bytes, so what it holds of the input is read as the whole input (ReadPrefix of frame).
use Prim.Native.Nat.{◌≤◌}
use native.Mathlib.Omega.{arith}
use mathlib.Core.Path.{sym, ap, ◌∙◌}
use lib.ListN.{length}
use lib.Seq.{length-take-le}
use Rattle.frame.specs.Reading.{stored}
use Rattle.frame.proofs.ReadPrefix.{buffer_read, full_buffer_read}
use Rattle.input.proofs.sheet.input_read.Goals as goal

pub slice_bounds-read-end : goal.slice_bounds-read-end
slice_bounds-read-end c =
    let whole = c.whole-1 in
    let args = c.args in
    sym (length-take-le args.n args.buffer.now (omega (arith, c.if-n-whole.true, whole.given)))

pub returns-then-n-whole : goal.returns-then-n-whole
returns-then-n-whole c s held =
    let whole = c.whole-1 in
    let args = c.args in
    c.read.ensures ∙ ap stored (buffer_read args.buffer.now s args.n (omega (arith, whole.given)) held)

pub returns : goal.returns
returns c s held =
    let whole = c.whole-1 in
    let args = c.args in
    let full : length args.buffer.now ≤ args.n = omega (arith, c.if-n-whole.false, whole.given) in
    c.read-2.ensures ∙ ap stored (full_buffer_read args.buffer.now s args.n (omega (arith, whole.given)) held full)
