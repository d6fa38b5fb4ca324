-- What the buffer has of the input is read as the whole input (input_read).
use Rattle.input.proofs.SheetRead.{known_input}
use Rattle.input.proofs.sheet.read_sheet.Goals as goal

pub returns-clause-sheet : goal.returns-clause-sheet
returns-clause-sheet g c =
    known_input (g.R.Read.remaining c.args.reader.now) c.input_read.ensures c.in_ok-n.ensures.front

pub returns-clause-consumed : goal.returns-clause-consumed
returns-clause-consumed g c = (_, c.in_ok-n.ensures.consumed)
