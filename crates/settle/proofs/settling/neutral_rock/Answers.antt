-- The search stops at the first rock that is neutral at v.
use mathlib.Core.Bool.{true, false, ◌&&◌}
use mathlib.Core.Path.{◌≡◌}
use Rattle.std.proofs.Common.{rules, tests}
use Rattle.std.proofs.lemmas.Iterator.{first_from_Range}
use Rattle.rocks.specs.RockArrays.{touches_at}
use Rattle.rocks.specs.SpreadArrays.{neutral_rock}
use Rattle.rocks.proofs.FirstLaws.{first_is}
use Rattle.settle.proofs.settling.neutral_rock.Goals as goal

pub returns : goal.returns
returns c =
    first_is _ _
    (first_from_Range _ _ _ _
    (λ r. (touches_at c.args.low.now c.args.high.now r c.args.v && neutral_rock c.args.dir.now r) ≡ true)
    (λ r. (touches_at c.args.low.now c.args.high.now r c.args.v && neutral_rock c.args.dir.now r) ≡ false)
    c.find.ensures.ran (λ x q k. search (rules, tests)) (λ x q k. (search rules, search (rules, tests))))
