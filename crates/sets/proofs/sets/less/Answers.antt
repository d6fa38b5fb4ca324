-- The digits of both numbers (SetLaws).
use Rattle.sets.proofs.SetLaws.{less-is_set}
use Rattle.sets.proofs.sets.less.Goals as goal

pub returns : goal.returns
returns c = λ u. less-is_set c.args.a c.args.b u c.ranges.b.fits
