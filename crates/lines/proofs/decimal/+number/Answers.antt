-- The measure of the recursion is the number. Its last digit comes behind the digits of its tenth.
use Rattle.std.proofs.Common.{sym}
use Rattle.lines.proofs.BufferLaws.{puts_then, puts_as}
use Rattle.lines.proofs.DigitLaws.{digits-small, digits_more}
use Rattle.lines.proofs.decimal.+number.Goals as goal

pub returns-then-n-lt10 : goal.returns-then-n-lt10
returns-then-n-lt10 t c = puts_as (sym (digits-small c.args.n c.if-n-lt10.true)) c.digit.ensures

pub returns : goal.returns
returns t c = puts_as (sym (digits_more c.args.n c.if-n-lt10.false)) (puts_then c.number-end.ensures c.digit-2.ensures)
