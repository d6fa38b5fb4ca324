-- Past its end the list reads the blank.
use mathlib.Core.Path.{◌∙◌, sym}
use lib.ListN.{get_or-eq_default}
use Rattle.arrays.proofs.arrays.at.Goals as goal

pub returns-else-i-t : goal.returns-else-i-t
returns-else-i-t g c = c.blank.ensures ∙ sym (get_or-eq_default c.args.t.now _ c.if-i-t.false)
