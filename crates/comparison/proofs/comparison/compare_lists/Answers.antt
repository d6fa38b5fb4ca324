-- By cases on the three tests.
use Rattle.comparison.proofs.CompareRun.{found_first_faulty, found_second_faulty, found-same, found_different}
use Rattle.comparison.proofs.comparison.compare_lists.Goals as goal

pub returns-then-not-gives_each : goal.returns-then-not-gives_each
returns-then-not-gives_each c =
    λ s _ _ _ t. found_first_faulty s _ _ _ _ _ t c.args.first.now c.args.second.now
    c.gives_each.ensures c.if-not-gives_each.true

pub returns-then-not-gives_each-2 : goal.returns-then-not-gives_each-2
returns-then-not-gives_each-2 c =
    λ s _ _ _ t. found_second_faulty s _ _ _ _ _ t c.args.first.now c.args.second.now
    c.gives_each.ensures c.if-not-gives_each.false
    c.gives_each-2.ensures c.if-not-gives_each-2.true

pub returns-then-same_places : goal.returns-then-same_places
returns-then-same_places c =
    λ s _ _ _ t. found-same s _ _ _ _ _ t c.args.first.now c.args.second.now
    c.gives_each.ensures c.if-not-gives_each.false
    c.gives_each-2.ensures c.if-not-gives_each-2.false
    c.same_places.ensures c.if-same_places.true

pub returns : goal.returns
returns c =
    λ s _ _ _ t. found_different s _ _ _ _ _ t c.args.first.now c.args.second.now
    c.gives_each.ensures c.if-not-gives_each.false
    c.gives_each-2.ensures c.if-not-gives_each-2.false
    c.same_places.ensures c.if-same_places.false
