-- Each job is compared.
use mathlib.Core.Path.{◌≡◌, refl}
use mathlib.Core.Bool.{true, false}
use native.Mathlib.Omega.{arith}
use Rattle.std.proofs.Common.{rules}
use Rattle.std.proofs.lemmas.Iterator.{cases_from_all, YieldsList-from_range}
use Rattle.lists.proofs.ListRun.{all_over}
use Rattle.comparison.specs.Comparison.{same_place}
use Rattle.comparison.proofs.comparison.same_places.Goals as goal

pub returns : goal.returns
returns c =
    let f = same_place c.args.first.now c.args.second.now in
    all_over c.args.jobs f c.all.result
    (cases_from_all _ _ _ (λ j. f j ≡ true) (λ j. f j ≡ false) c.all.ensures.ran
    (YieldsList-from_range 0 c.args.jobs c.args.jobs refl (omega arith)) (λ x q k. search rules) (λ x q k. search rules))
