-- By cases on the three tests.
use native.Mathlib.Omega.{arith}
use Rattle.list_check.proofs.CheckRun.{found_other, found-not-allowed, found_above, found_passed}
use Rattle.list_check.proofs.check.check_places.Goals as goal

pub returns-then-list-jobs : goal.returns-then-list-jobs
returns-then-list-jobs c =
    λ s same t. found_other s _ _ _ _ _ t c.args.list.now (λ e. omega (arith, c.if-list-jobs.true))

pub returns-then-not-fit_all : goal.returns-then-not-fit_all
returns-then-not-fit_all c =
    λ s same t. found-not-allowed s _ _ _ _ _ t c.args.list.now (omega (arith, c.if-list-jobs.false)) c.fit_all.ensures c.if-not-fit_all.true

pub returns-then-not-within : goal.returns-then-not-within
returns-then-not-within c =
    λ s same t. found_above s _ _ _ _ _ t c.args.list.now (omega (arith, c.if-list-jobs.false)) c.fit_all.ensures c.if-not-fit_all.false
    (c.largest_load-sum.ensures s c.args.allowed.now t) (c.within.ensures s t.sound same)
    c.if-not-within.true

pub returns : goal.returns
returns c =
    λ s same t. found_passed s _ _ _ _ _ t c.args.list.now (omega (arith, c.if-list-jobs.false)) c.fit_all.ensures c.if-not-fit_all.false
    (c.largest_load-sum.ensures s c.args.allowed.now t) (c.within.ensures s t.sound same)
    c.if-not-within.false
