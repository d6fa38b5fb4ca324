-- The benches passed are joined.
use Rattle.placing.proofs.ClassLaws.{Join}
use Rattle.placing.proofs.classes.join_all.Given as goal

abbrev pub invariant-loop-v : goal.invariant-loop-v
invariant-loop-v l = Join l.low l.high l.x l.y l.initial.labels l.initial.extra l.v l.labels l.extra
