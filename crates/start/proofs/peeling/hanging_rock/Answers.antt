-- The search stops at the first rock that is left at v.
use mathlib.Core.Bool.{true, false}
use mathlib.Core.Path.{◌≡◌}
use Rattle.std.proofs.Common.{rules}
use Rattle.std.proofs.lemmas.Iterator.{first_from_Range}
use Rattle.start.specs.StartArrays.{left_rock}
use Rattle.rocks.proofs.FirstLaws.{first_is}
use Rattle.start.proofs.peeling.hanging_rock.Goals as goal

pub returns : goal.returns
returns c =
    first_is _ _
    (first_from_Range _ _ _ _
    (λ r. left_rock c.args.job.now c.args.low.now c.args.high.now c.args.left.now c.args.v r ≡ true)
    (λ r. left_rock c.args.job.now c.args.low.now c.args.high.now c.args.left.now c.args.v r ≡ false) c.find.ensures.ran
    (λ x q k. search rules) (λ x q k. (search rules, search rules)))
