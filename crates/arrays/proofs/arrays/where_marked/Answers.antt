-- By cases on the mark.
use mathlib.Core.Path.{refl, sym, ◌∙◌}
use Rattle.arrays.proofs.ArrayLaws.{cond_yes, cond_no}
use Rattle.arrays.proofs.arrays.where_marked.Goals as goal

pub returns-then-at : goal.returns-then-at
returns-then-at c = cond_yes _ _ (sym c.at.ensures ∙ c.if-at.true) refl

pub returns-else-at : goal.returns-else-at
returns-else-at c = cond_no _ _ (sym c.at.ensures ∙ c.if-at.false)
