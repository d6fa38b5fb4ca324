-- The part of the table behind the head's numbers has room for 64 more, and becomes these.
use Rattle.read_door.proofs.ReadSteps.{booked_put}
use Rattle.inspect.proofs.put_booked.Goals as goal

pub returns : goal.returns
returns c = booked_put c.args.table.now c.args.booked.now c.requires.0 c.requires.1 c.put_front.ensures
