-- The digits of both numbers (SetLaws).
use Rattle.sets.proofs.SetLaws.{and-is_set}
use Rattle.sets.proofs.sets.common.Goals as goal

pub returns : goal.returns
returns c = and-is_set c.args.a c.args.b
