-- By cases on the two tests.
use mathlib.Core.Path.{sym}
use Rattle.arrays.proofs.NumberLaws.{times_fits, times_exact, times_wide, times_far}
use Rattle.arrays.proofs.numbers.times.Goals as goal

pub returns-then-a-ge1048576 : goal.returns-then-a-ge1048576
returns-then-a-ge1048576 c = sym (times_wide c.args.a c.args.b c.if-a-ge1048576.true)

pub returns-then-b-ge1073741824 : goal.returns-then-b-ge1073741824
returns-then-b-ge1073741824 c = sym (times_far c.args.a c.args.b c.if-b-ge1073741824.true)

pub overflow_mul-result : goal.overflow_mul-result
overflow_mul-result c =
    let at-args = c.args in
    record { fits = times_fits at-args.a at-args.b c.if-a-ge1048576.false c.if-b-ge1073741824.false }

pub returns : goal.returns
returns c =
    let at-args = c.args in
    sym (times_exact at-args.a at-args.b c.if-a-ge1048576.false c.if-b-ge1073741824.false)
