-- By whether the job is heavy.
use mathlib.Core.Path.{◌≡◌, sym, ◌∙◌}
use mathlib.Core.Bool.{true}
use Rattle.placing.specs.ClassArrays.{Job}
use Rattle.placing.proofs.PlaceRun.{light_tried}
use Rattle.placing.proofs.classes.put_job.Goals as goal

pub returns-then-heavy : goal.returns-then-heavy
returns-then-heavy c g s i listed few shows =
    let heavy : g.heavy i ≡ true = sym listed.heavy_is ∙ sym c.heavy.ensures ∙ c.if-heavy.true in
    let job : Job g i c.args.bay c.lowest.result c.highest.result c.args.minutes =
    rw (c.lowest.ensures, c.highest.ensures) (listed.its_ends heavy) in
    c.put_heavy.ensures g s i job few heavy shows

pub returns : goal.returns
returns c g s i listed few shows =
    light_tried g s i c.args.bay c.args.c c.args.labels.now c.args.extra.now shows
    (sym listed.heavy_is ∙ sym c.heavy.ensures ∙ c.if-heavy.false)
