-- The digits of both numbers (SetLaws).
use Rattle.sets.proofs.SetLaws.{or-is_set}
use Rattle.sets.proofs.sets.either.Goals as goal

pub returns : goal.returns
returns c = or-is_set c.args.a c.args.b
