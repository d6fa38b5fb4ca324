-- By whether both ends are shut.
use mathlib.Core.Path.{sym, ◌∙◌}
use Rattle.bools.proofs.BoolLaws.{and-false_left, and-false_right}
use Rattle.placing.proofs.PlaceRun.{stuck_tried, placed-tried}
use Rattle.placing.proofs.classes.put_heavy.Goals as goal
use Rattle.placing.proofs.classes.put_heavy.Goals.{else-has-via-then-has+else-has-2, else-has-via-else-has}

pub returns-then-has-2 : goal.returns-then-has-2
returns-then-has-2 c g s i job few heavy shows =
    stuck_tried g s i c.args.bay c.args.c c.args.labels.now c.args.extra.now shows c.args.low c.args.high
    c.args.minutes job heavy (sym c.has.ensures ∙ c.if-has.true) (sym c.has-then-has.ensures ∙ c.if-has-2.true)

pub returns : goal.returns
returns c g s i job few heavy shows =
    placed-tried g s i c.args.bay c.args.c c.args.labels.now c.args.extra.now shows c.args.low c.args.high
    c.args.minutes job heavy
    (elim c.else-has.branch [
      | else-has-via-then-has+else-has-2 w ↦ and-false_right _ (sym w.has-then-has.ensures ∙ w.if-has-2.false)
      | else-has-via-else-has w ↦ and-false_left _ (sym c.has.ensures ∙ w.if-has.false)
    ])
    (c.place.ensures g s i job few shows)
