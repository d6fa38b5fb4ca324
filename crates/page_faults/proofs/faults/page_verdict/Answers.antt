-- What the loop keeps is Tried of FaultRun.
use mathlib.Core.Path.{sym, ◌∙◌}
use Rattle.std.proofs.lemmas.Result.{err_from_is_err_and}
use Rattle.page_faults.proofs.FaultRun.{starts, goes_on, stops, ends}
use Rattle.page_faults.proofs.faults.page_verdict.Goals as goal

pub loop-i-init : goal.loop-i-init
loop-i-init c = starts c.args.benches c.args.page.now

pub returns-in_err-set_verdict : goal.returns-in_err-set_verdict
returns-in_err-set_verdict c =
    let fault = stops c.args.benches c.args.page.now c.loop-i.seen c.loop-i.i c.loop-i.invariant c.set_verdict.ensures
    c.loop-i-test.true c.in_err-set_verdict.was in
    let p = err_from_is_err_and c.from_residual.result c.from_residual.ensures.1 in
    rw (p.1, p.2) (sym c.in_err-set_verdict.was ∙ fault)

pub loop-i-preserved : goal.loop-i-preserved
loop-i-preserved c =
    goes_on c.args.benches c.args.page.now c.loop-i.seen c.loop-i.i c.loop-i.invariant c.set_verdict.ensures
    c.in_ok-set_verdict.was c.either-seen.ensures

pub returns : goal.returns
returns c = ends c.args.benches c.args.page.now c.loop-i.seen c.loop-i.i c.loop-i.invariant c.loop-i-test.false
