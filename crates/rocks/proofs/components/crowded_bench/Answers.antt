-- The search finds the first crowded bench.
use Rattle.std.proofs.Common.{◌≡◌, true, false, get_or, rules, tests}
use Rattle.std.proofs.lemmas.Iterator.{first_from_Range}
use Rattle.rocks.specs.SpreadArrays.{is_crowded}
use Rattle.rocks.proofs.FirstLaws.{first_is}
use Rattle.rocks.proofs.components.crowded_bench.Goals as goal

pub returns : goal.returns
returns g c =
    first_is c.args.benches (λ v. is_crowded (g.S.Standing.balance (get_or c.args.balance.now v g.S.Entry.blank)))
    (first_from_Range _ _ _ _ (λ v. is_crowded (g.S.Standing.balance (get_or c.args.balance.now v g.S.Entry.blank)) ≡ true)
    (λ v. is_crowded (g.S.Standing.balance (get_or c.args.balance.now v g.S.Entry.blank)) ≡ false) c.find.ensures.ran
    (λ x q k. search (rules, tests)) (λ x q k. (search (rules, tests), search (rules, tests))))
