-- The search stops at the first job that may go.
use mathlib.Core.Bool.{true, false}
use mathlib.Core.Path.{◌≡◌}
use Rattle.std.proofs.Common.{rules, tests, ℕ, Bool}
use Rattle.std.proofs.lemmas.Iterator.{first_from_Range}
use Rattle.rocks.proofs.FirstLaws.{first_is}
use Rattle.push.specs.PushArrays.{goes}
use Rattle.push.proofs.push.first_job.Goals as goal

pub returns : goal.returns
returns c =
    let may_go : ℕ → Bool =
    goes c.args.choice.now c.args.place.now c.args.level.now c.args.receivers.now c.args.all in
    first_is c.args.jobs may_go
    (first_from_Range _ _ _ _ (λ j. may_go j ≡ true) (λ j. may_go j ≡ false) c.find.ensures.ran
    (λ x q k. search (rules, tests)) (λ x q k. (search rules, search (rules, tests))))
