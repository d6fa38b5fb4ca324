-- Both tests are of the bit.
use Rattle.sets.proofs.SetLaws.{has_past, has_in}
use Rattle.sets.proofs.sets.has.Goals as goal

pub returns-then-v-gt63 : goal.returns-then-v-gt63
returns-then-v-gt63 c = has_past c.args.mask c.args.v c.if-v-gt63.true

pub returns : goal.returns
returns c = has_in c.args.mask c.args.v c.if-v-gt63.false
