-- A byte is stored where it fits.
use Rattle.lines.proofs.BufferLaws.{puts_byte, puts_cut}
use Rattle.lines.proofs.buffer.byte.Goals as goal

pub returns-then-at-out : goal.returns-then-at-out
returns-then-at-out c = puts_byte c.args.out.now c.args.at c.args.b c.if-at-out.true

pub returns : goal.returns
returns c = puts_cut c.args.out.now c.args.at c.args.b c.if-at-out.false
