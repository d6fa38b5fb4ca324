-- The definition is the quotient rounded up.
use native.Mathlib.Omega.{arith}
use Rattle.tables.specs.Tables.{entries_of}
use Rattle.entries.proofs.table.entries.Goals as goal

pub returns : goal.returns
unfolding entries_of
returns c = omega (arith, c.div_ceil.ensures)
