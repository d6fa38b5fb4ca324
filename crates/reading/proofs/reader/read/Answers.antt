-- `read`: the loop keeps ReadState: what reading the sheet gives is what reading on from here gives. Each way through
-- the body is a law of ReadState.
use Rattle.fields.specs.Tests.{Verdict}
use mathlib.Core.Path.{sym, ap, ◌∙◌}
use native.Mathlib.Omega.{arith}
use Rattle.std.specs.Prelude.{Ok}
use Rattle.std.proofs.lemmas.Result.{err_from_is_err_and}
use Rattle.frame.proofs.Stored.{fault_stored}
use Rattle.frame.proofs.FirstFault.{read_too_long}
use Rattle.frame.proofs.ReadState.{next_is, found-is, job_room, state_start, state_foreign}
use Rattle.frame.proofs.ReadState.{reading_of, state_fault, state_head}
use Rattle.frame.proofs.ReadState.{state_booking, bench_room, state_job, state_end, state_minutes, state_over}
use Rattle.reading.proofs.reader.read.Goals as goal

pub returns-then-s-gt65536 : goal.returns-then-s-gt65536
returns-then-s-gt65536 c = fault_stored (read_too_long c.args.s.now c.if-s-gt65536.true)

pub loop-at-init : goal.loop-at-init
loop-at-init c =
    let at-args = c.args in
    state_start at-args.s.now c.empty-sheet.result c.if-s-gt65536.false c.empty-sheet.ensures

pub overflow_add-next : goal.overflow_add-next
overflow_add-next c = omega (arith, c.frame_size.ensures.1)

pub returns-in_err-frame_at : goal.returns-in_err-frame_at
returns-in_err-frame_at c =
    let l = c.loop-at in
    let s = c.args.s.now in
    let is = found-is s l.sheet l.stage l.had l.at l.invariant _ _ c.frame_at.ensures in
    let faulty = is c.in_err-frame_at.was in
    let p = err_from_is_err_and c.from_residual.result c.from_residual.ensures.1 in
    rw (p.1, p.2)
    (fault_stored (state_fault s l.sheet l.stage l.had l.at l.invariant c.loop-at-test.true _ faulty))

-- The bench of a booking has an entry.
pub bounds-sheet-bench : goal.bounds-sheet-bench
bounds-sheet-bench c =
    let at-frame-size = c.frame_size in
    let at-loop-test = c.loop-at-test in
    let l = c.loop-at in
    let s = c.args.s.now in
    let next = next_is s l.at at-frame-size.result at-frame-size.ensures.0 in
    let is = found-is s l.sheet l.stage l.had l.at l.invariant _ _ c.frame_at.ensures in
    bench_room s l.sheet l.stage l.had l.at l.invariant at-loop-test.true _ next _
    (is (c.in_ok-frame_at.was ∙ ap Ok c.in-Booking.is))

-- A sound job is not the 513th.
pub offset_bounds-sheet-n : goal.offset_bounds-sheet-n
offset_bounds-sheet-n c =
    let size = c.frame_size in
    let l = c.loop-at in
    let s = c.args.s.now in
    let next = next_is s l.at size.result size.ensures.0 in
    let is = found-is s l.sheet l.stage l.had l.at l.invariant _ _ c.frame_at.ensures in
    omega (arith, job_room s l.sheet l.stage l.had l.at l.invariant c.loop-at-test.true _ next _ (is (c.in_ok-frame_at.was ∙ ap Ok c.in-Job.is)))

pub bounds-sheet-n : goal.bounds-sheet-n
bounds-sheet-n c =
    let size = c.frame_size in
    let l = c.loop-at in
    let s = c.args.s.now in
    let next = next_is s l.at size.result size.ensures.0 in
    let is = found-is s l.sheet l.stage l.had l.at l.invariant _ _ c.frame_at.ensures in
    job_room s l.sheet l.stage l.had l.at l.invariant c.loop-at-test.true _ next _ (is (c.in_ok-frame_at.was ∙ ap Ok c.in-Job.is))

pub offset_bounds-sheet-n-in-Job : goal.offset_bounds-sheet-n-in-Job
offset_bounds-sheet-n-in-Job c =
    let size = c.frame_size in
    let l = c.loop-at in
    let s = c.args.s.now in
    let next = next_is s l.at size.result size.ensures.0 in
    let is = found-is s l.sheet l.stage l.had l.at l.invariant _ _ c.frame_at.ensures in
    omega (arith, job_room s l.sheet l.stage l.had l.at l.invariant c.loop-at-test.true _ next _ (is (c.in_ok-frame_at.was ∙ ap Ok c.in-Job.is)))

pub bounds-sheet-n-in-Job : goal.bounds-sheet-n-in-Job
bounds-sheet-n-in-Job c =
    let size = c.frame_size in
    let l = c.loop-at in
    let s = c.args.s.now in
    let next = next_is s l.at size.result size.ensures.0 in
    let is = found-is s l.sheet l.stage l.had l.at l.invariant _ _ c.frame_at.ensures in
    job_room s l.sheet l.stage l.had l.at l.invariant c.loop-at-test.true _ next _ (is (c.in_ok-frame_at.was ∙ ap Ok c.in-Job.is))

pub overflow_add-sheet : goal.overflow_add-sheet
overflow_add-sheet c =
    let size = c.frame_size in
    let l = c.loop-at in
    let s = c.args.s.now in
    let next = next_is s l.at size.result size.ensures.0 in
    let is = found-is s l.sheet l.stage l.had l.at l.invariant _ _ c.frame_at.ensures in
    omega (arith, job_room s l.sheet l.stage l.had l.at l.invariant c.loop-at-test.true _ next _ (is (c.in_ok-frame_at.was ∙ ap Ok c.in-Job.is)))

pub loop-at-preserved-in-Foreign : goal.loop-at-preserved-in-Foreign
loop-at-preserved-in-Foreign c =
    let at-frame-size = c.frame_size in
    let at-loop-test = c.loop-at-test in
    let l = c.loop-at in
    let s = c.args.s.now in
    let next = next_is s l.at at-frame-size.result at-frame-size.ensures.0 in
    let is = found-is s l.sheet l.stage l.had l.at l.invariant _ _ c.frame_at.ensures in
    state_foreign s l.sheet l.stage l.had l.at l.invariant at-loop-test.true _ next
    (is (c.in_ok-frame_at.was ∙ ap Ok c.in-Foreign.is))

pub loop-at-preserved-in-Head : goal.loop-at-preserved-in-Head
loop-at-preserved-in-Head c =
    let at-frame-size = c.frame_size in
    let at-loop-test = c.loop-at-test in
    let l = c.loop-at in
    let s = c.args.s.now in
    let next = next_is s l.at at-frame-size.result at-frame-size.ensures.0 in
    let is = found-is s l.sheet l.stage l.had l.at l.invariant _ _ c.frame_at.ensures in
    state_head s l.sheet l.stage l.had l.at l.invariant at-loop-test.true _ next _
    (is (c.in_ok-frame_at.was ∙ ap Ok c.in-Head.is))

pub loop-at-preserved-in-Booking : goal.loop-at-preserved-in-Booking
loop-at-preserved-in-Booking c =
    let at-frame-size = c.frame_size in
    let at-loop-test = c.loop-at-test in
    let l = c.loop-at in
    let s = c.args.s.now in
    let next = next_is s l.at at-frame-size.result at-frame-size.ensures.0 in
    let is = found-is s l.sheet l.stage l.had l.at l.invariant _ _ c.frame_at.ensures in
    state_booking s l.sheet l.stage l.had l.at l.invariant at-loop-test.true _ next _
    (is (c.in_ok-frame_at.was ∙ ap Ok c.in-Booking.is)) _ c.add-had.ensures

pub loop-at-preserved-in-Job : goal.loop-at-preserved-in-Job
loop-at-preserved-in-Job c =
    let at-frame-size = c.frame_size in
    let at-loop-test = c.loop-at-test in
    let l = c.loop-at in
    let s = c.args.s.now in
    let next = next_is s l.at at-frame-size.result at-frame-size.ensures.0 in
    let is = found-is s l.sheet l.stage l.had l.at l.invariant _ _ c.frame_at.ensures in
    state_job s l.sheet l.stage l.had l.at l.invariant at-loop-test.true _ next _
    (is (c.in_ok-frame_at.was ∙ ap Ok c.in-Job.is))

pub loop-at-preserved : goal.loop-at-preserved
loop-at-preserved c =
    let at-frame-size = c.frame_size in
    let at-loop-test = c.loop-at-test in
    let l = c.loop-at in
    let s = c.args.s.now in
    let next = next_is s l.at at-frame-size.result at-frame-size.ensures.0 in
    let is = found-is s l.sheet l.stage l.had l.at l.invariant _ _ c.frame_at.ensures in
    state_end s l.sheet l.stage l.had l.at l.invariant at-loop-test.true _ next
    (is (c.in_ok-frame_at.was ∙ ap Ok c.in-End.is))

pub finish-requires : goal.finish-requires
finish-requires c =
    let s = c.args.s.now in
    let l = c.loop-at in
    (l.invariant.p_fits, l.invariant.q_fits, state_minutes s l.sheet l.stage l.had l.at l.invariant)

pub returns-in_err-finish : goal.returns-in_err-finish
returns-in_err-finish c =
    let l = c.loop-at in
    let s = c.args.s.now in
    let told = sym (c.finish.ensures l.sheet.booked) ∙ c.in_err-finish.was in
    let p = err_from_is_err_and c.from_residual-in_err-finish.result c.from_residual-in_err-finish.ensures.1 in
    state_over s l.sheet l.stage l.had l.at l.invariant c.loop-at-test.false _
    (rw (p.1, p.2) (sym (ap (λ (v : Verdict). reading_of v l.sheet) told)))

pub returns : goal.returns
returns c =
    let l = c.loop-at in
    let s = c.args.s.now in
    let told = sym (c.finish.ensures l.sheet.booked) ∙ c.in_ok-finish.was in
    state_over s l.sheet l.stage l.had l.at l.invariant c.loop-at-test.false _
    (sym (ap (λ (v : Verdict). reading_of v l.sheet) told))

pub offset_bounds-sheet-bench : goal.offset_bounds-sheet-bench
offset_bounds-sheet-bench c = omega (arith, bounds-sheet-bench c)
