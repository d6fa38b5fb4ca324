-- The search finds the first rock inside.
use Rattle.std.proofs.Common.{◌≡◌, true, false, rules, tests}
use Rattle.std.proofs.lemmas.Iterator.{first_from_Range}
use Rattle.bits.specs.Bits.{is_set}
use Rattle.rocks.specs.SpreadArrays.{inside_at}
use Rattle.rocks.proofs.FirstLaws.{first_is}
use Rattle.rocks.proofs.spreading.first_inside.Goals as goal

pub returns : goal.returns
returns c =
    first_is c.args.n.rocks (inside_at c.args.low.now c.args.dir.now (is_set 64 c.args.chosen))
    (first_from_Range _ _ _ _ (λ r. inside_at c.args.low.now c.args.dir.now (is_set 64 c.args.chosen) r ≡ true)
    (λ r. inside_at c.args.low.now c.args.dir.now (is_set 64 c.args.chosen) r ≡ false) c.find.ensures.ran
    (λ x q k. search (rules, tests)) (λ x q k. (search (rules, tests), search (rules, tests))))
