-- By what is left of the one set without the other.
use Rattle.weighing.proofs.WeightLaws.{inside_is}
use Rattle.weighing.proofs.weighing.inside.Goals as goal

pub returns : goal.returns
returns c = inside_is c.args.allowed c.args.set c.less.result c.less.type_inv c.less.ensures
