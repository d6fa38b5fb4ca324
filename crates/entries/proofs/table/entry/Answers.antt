-- An entry past the table's bytes is 0; any other is the number of the bytes from its first on.
use Rattle.tables.proofs.TableSteps.{entry_over, entry_here}
use Rattle.entries.proofs.table.entry.Goals as goal

pub returns-then-t-n : goal.returns-then-t-n
returns-then-t-n c = entry_over c.args.t.now c.args.n c.if-t-n.true

pub returns : goal.returns
returns c = entry_here c.args.t.now c.args.n c.little8.ensures
