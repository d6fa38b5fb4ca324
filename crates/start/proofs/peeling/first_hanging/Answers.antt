-- The search stops at the first bench that is hanging.
use mathlib.Core.Bool.{true, false}
use mathlib.Core.List.{map}
use mathlib.Core.Path.{◌≡◌}
use Rattle.std.proofs.Common.{rules}
use Rattle.std.proofs.lemmas.Iterator.{first_from_Range}
use Rattle.start.specs.StartArrays.{hanging_of}
use Rattle.rocks.proofs.FirstLaws.{first_is}
use Rattle.start.proofs.peeling.first_hanging.Goals as goal

pub returns : goal.returns
returns g c =
    first_is _ _
    (first_from_Range _ _ _ _
    (λ v. hanging_of c.args.n.rocks c.args.job.now c.args.low.now c.args.high.now
    (map g.S.Standing.balance c.args.balance.now) c.args.left.now v ≡ true)
    (λ v. hanging_of c.args.n.rocks c.args.job.now c.args.low.now c.args.high.now
    (map g.S.Standing.balance c.args.balance.now) c.args.left.now v ≡ false)
    c.find.ensures.ran (λ x q k. search rules) (λ x q k. (search rules, search rules)))
