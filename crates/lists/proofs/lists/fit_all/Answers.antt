-- Each job is tried.
use mathlib.Core.Path.{◌≡◌, refl}
use mathlib.Core.Bool.{true, false}
use native.Mathlib.Omega.{arith}
use Rattle.std.proofs.Common.{rules}
use Rattle.std.proofs.lemmas.Iterator.{cases_from_all, YieldsList-from_range}
use Rattle.lists.specs.Lists.{fits_at}
use Rattle.lists.proofs.ListRun.{all_over}
use Rattle.lists.proofs.lists.fit_all.Goals as goal

pub returns : goal.returns
returns c =
    let f = fits_at c.args.allowed.now c.args.list.now in
    all_over c.args.jobs f c.all.result
    (cases_from_all _ _ _ (λ j. f j ≡ true) (λ j. f j ≡ false) c.all.ensures.ran
    (YieldsList-from_range 0 c.args.jobs c.args.jobs refl (omega arith)) (λ x q k. search rules) (λ x q k. search rules))
