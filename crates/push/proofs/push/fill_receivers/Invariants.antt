-- The sets hold the benches passed.
use Rattle.push.specs.PushArrays.{receives_at}
use Rattle.push.proofs.ReceiverLaws.{Levels}
use Rattle.push.proofs.push.fill_receivers.Given as goal

abbrev pub invariant-loop-v : goal.invariant-loop-v
invariant-loop-v l = Levels l.level (receives_at l.n.benches l.n.limit l.load l.level l.m.children l.m.heavy) l.initial.receivers l.v l.receivers
