-- The search is over the numbers of the entries.
use Rattle.std.proofs.Common.{◌≡◌, arith, rules, tests}
use mathlib.Core.Logic.{◌≢◌}
use Rattle.std.proofs.lemmas.Iterator.{first_from_Range}
use Rattle.tables.specs.Tables.{entry_of}
use Rattle.tables.proofs.FirstSteps.{search_found}
use Rattle.entries.proofs.table.first_from.Goals as goal

pub returns : goal.returns
returns c =
    let t = c.args.t.now in
    search_found t c.args.from c.entries.result c.find.result c.entries.ensures
    (first_from_Range _ _ _ _ (λ n. entry_of t n ≢ 0) (λ n. entry_of t n ≡ 0) c.find.ensures.ran
    (λ x q k. grind (arith, tests))
    (λ x q k. (search rules, grind (arith, tests))))
