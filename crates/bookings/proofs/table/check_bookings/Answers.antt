-- The loop's invariant: the verdict on all bookings is that on the bookings from bench b on.
use mathlib.Core.Path.{sym, ◌∙◌}
use Rattle.std.proofs.lemmas.Result.{err_from_is_err_and}
use Rattle.bookings.proofs.BookingLaws.{entry_sound, entry_fault, entries_over}
use Rattle.bookings.proofs.table.check_bookings.Goals as goal

pub returns-in_err-check_entry : goal.returns-in_err-check_entry
returns-in_err-check_entry c =
    let l = c.loop-bench in
    let a = c.args in
    let fault = entry_fault a.benches a.booked.now l.bench c.loop-bench-test.true
    c.check_entry.ensures c.in_err-check_entry.was in
    let p = err_from_is_err_and c.from_residual.result c.from_residual.ensures.1 in
    rw (p.1, p.2) (sym (l.invariant ∙ fault))

pub loop-bench-preserved : goal.loop-bench-preserved
loop-bench-preserved c =
    let l = c.loop-bench in
    let a = c.args in
    let sound = entry_sound a.benches a.booked.now l.bench c.loop-bench-test.true
    c.check_entry.ensures c.in_ok-check_entry.was in
    l.invariant ∙ sound

pub returns : goal.returns
returns c =
    let l = c.loop-bench in
    let a = c.args in
    sym (l.invariant ∙ entries_over a.benches a.booked.now l.bench c.loop-bench-test.false)
