-- The first i elements are the first i entries of the table, and the others are as they were.
use native.Mathlib.Omega.{arith}
use mathlib.Core.Path.{◌∙◌}
use Rattle.tables.proofs.TableSteps.{load_more, load_all}
use Rattle.entries.proofs.table.load.Goals as goal

pub loop-i-preserved : goal.loop-i-preserved
loop-i-preserved c =
    rw c.loop-i.invariant (load_more c.args.t.now c.args.into.now c.loop-i.i (omega arith) (omega arith) c.entry.ensures)

pub returns-clause-loaded : goal.returns-clause-loaded
returns-clause-loaded c =
    c.loop-i.invariant
    ∙ load_all c.args.t.now c.args.into.now c.loop-i.i (omega (arith, c.min-n.ensures, c.entries.ensures))
