-- The four numbers fit into the table.
use Rattle.read_door.proofs.ReadSteps.{head_put}
use Rattle.read_door.proofs.call.put_head.Goals as goal

pub returns : goal.returns
returns c = head_put c.args.contents.now c.args.h c.requires c.put_front.ensures
