-- The zeros below the lowest set bit.
use mathlib.Core.Path.{◌∙◌}
use Rattle.sets.proofs.BitLaws.{highest_trailing}
use Rattle.sets.proofs.sets.highest.Goals as goal

pub returns : goal.returns
returns c = c.saturating_sub.ensures ∙ highest_trailing c.args.allowed
