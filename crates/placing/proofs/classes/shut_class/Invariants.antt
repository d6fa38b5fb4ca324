-- The benches passed are shut where they have the label.
use Rattle.placing.proofs.ClassLaws.{Shut}
use Rattle.placing.proofs.classes.shut_class.Given as goal

abbrev pub invariant-loop-v : goal.invariant-loop-v
invariant-loop-v l = Shut l.shut l.label l.labels l.v l.all
