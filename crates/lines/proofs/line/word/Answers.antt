-- The space and the digits, one behind the other.
use Rattle.lines.proofs.BufferLaws.{puts_then}
use Rattle.lines.proofs.line.word.Goals as goal

pub returns : goal.returns
returns c = puts_then c.byte-end.ensures c.number.ensures
