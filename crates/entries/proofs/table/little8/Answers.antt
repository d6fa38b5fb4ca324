-- Eight bytes as they are, or those that are there over zeros.
use mathlib.Core.Path.{◌∙◌}
use Rattle.tables.proofs.TableSteps.{little_front, little_short}
use Rattle.entries.proofs.table.little8.Goals as goal
use Rattle.entries.proofs.table.little8.Goals.{then-s-lt8, else-s-lt8}

pub returns : goal.returns
returns c = elim c.if-s-lt8.branch [
  | then-s-lt8 w ↦
      little_short c.args.s.now w.copy_from_slice.new.self c.if-s-lt8.bytes w.if-s-lt8.true
      w.copy_from_slice.ensures.after w.bytes-is c.from_le_bytes.ensures
  | else-s-lt8 w ↦
      little_front c.args.s.now c.if-s-lt8.bytes (w.bytes-is ∙ w.copy_from_slice-else-s-lt8.ensures.after)
      c.from_le_bytes.ensures
]
