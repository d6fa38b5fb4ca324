-- By cases on what is read.
use Rattle.list_promise.proofs.ListReplies.{short_refused, short_accepted}
use Rattle.list_door.proofs.call.short_fault.Goals as goal

pub returns-in-Err : goal.returns-in-Err
returns-in-Err c = short_refused c.args.sheet.now c.read.ensures c.in-Err.is

pub returns-in-Ok : goal.returns-in-Ok
returns-in-Ok c = short_accepted c.args.sheet.now c.read.ensures c.in-Ok.is
