-- `put`: where the table has room for the entry, its eight bytes are put there.
use native.Mathlib.Omega.{arith}
use mathlib.Core.Path.{◌∙◌}
use Rattle.tables.proofs.TableSteps.{put_none, put_over}
use Rattle.tables.proofs.table.put.Goals as goal

pub returns-then-n-t : goal.returns-then-n-t
returns-then-n-t c =
    put_over c.args.t.now c.args.n c.args.v (omega arith) (c.copy_from_slice.ensures.after ∙ c.to_le_bytes.ensures)

pub returns-else-n-t : goal.returns-else-n-t
returns-else-n-t c = put_none c.args.t.now c.args.n c.args.v (omega arith)
