-- The search stops at the first job that is long.
use mathlib.Core.Bool.{true, false}
use mathlib.Core.Path.{◌≡◌}
use lib.Dec.{ltb}
use lib.ListN.{get_or}
use Rattle.std.proofs.Common.{rules, tests}
use Rattle.std.proofs.lemmas.Iterator.{first_from_Range}
use Rattle.rocks.proofs.FirstLaws.{first_is}
use Rattle.start.proofs.start.long_job.Goals as goal

pub returns : goal.returns
returns c =
    first_is _ _
    (first_from_Range _ _ _ _
    (λ j. ltb c.args.target (get_or c.args.minutes.now j 0) ≡ true)
    (λ j. ltb c.args.target (get_or c.args.minutes.now j 0) ≡ false) c.find.ensures.ran
    (λ x q k. search (rules, tests)) (λ x q k. (search rules, search (rules, tests))))
