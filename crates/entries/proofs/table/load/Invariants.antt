-- The first i elements are the first i entries of the table, and the others are as they were.
use mathlib.Core.Path.{◌≡◌}
use lib.Seq.{paste}
use Rattle.tables.specs.Tables.{numbers_of}
use Rattle.entries.proofs.table.load.Given as goal

abbrev pub invariant-loop-i : goal.invariant-loop-i
invariant-loop-i l = l.into ≡ paste l.initial.into 0 (numbers_of l.t) l.i
