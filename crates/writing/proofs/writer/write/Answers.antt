-- Where the check accepts, all numbers fit their fields, and the four parts that are put one behind the other are the
-- sheet.
use native.Mathlib.Omega.{arith}
use mathlib.Core.Path.{◌≡◌, refl, sym, ap, ◌∙◌}
use Prim.Native.Nat.{ℕ, ◌+◌, ◌-◌, ◌*◌}
use mathlib.Core.List.{List, ◌++◌, append_assoc}
use lib.ListN.{length, take, drop}
use borrow.Rule.Slice.PartMut.{post_of, Post-is, same_len_mid}
use Rattle.std.proofs.lemmas.Result.{err_from_is_err_and}
use Rattle.fields.specs.Format.{bookings, booking_frames}
use Rattle.frame.specs.Writing.{output}
use Rattle.packing.proofs.PutLaws.{head_fits, end_fits}
use Rattle.frame.proofs.WriterSteps.{refused, no_room, all-written, head_ready, few_benches}
use Rattle.frame.proofs.WriterSteps.{bookings-ready, bookings-few, few_jobs, minutes_ready}
use Rattle.frame.proofs.WriterSteps.{bookings-put, sheet_put}
use Rattle.writing.proofs.writer.write.Goals as goal

-- Where the check accepts, there are at most 64 bookings and 512 jobs.
pub overflow_mul-start : goal.overflow_mul-start
overflow_mul-start c =
    let n = c.max-n.result in
    let a = c.args in
    let some = bookings-few a.h a.booked.now n a.minutes.now a.allowed.now c.check.ensures c.in_ok-check.was in
    let jobs = few_jobs a.h a.booked.now n a.minutes.now a.allowed.now c.check.ensures c.in_ok-check.was in
    omega (arith, c.count_bookings.ensures, some, jobs)

pub overflow_add-start : goal.overflow_add-start
overflow_add-start c =
    let n = c.max-n.result in
    let a = c.args in
    let some = bookings-few a.h a.booked.now n a.minutes.now a.allowed.now c.check.ensures c.in_ok-check.was in
    let jobs = few_jobs a.h a.booked.now n a.minutes.now a.allowed.now c.check.ensures c.in_ok-check.was in
    omega (arith, c.count_bookings.ensures, some, jobs)

pub overflow_mul-size : goal.overflow_mul-size
overflow_mul-size c =
    let n = c.max-n.result in
    let a = c.args in
    let some = bookings-few a.h a.booked.now n a.minutes.now a.allowed.now c.check.ensures c.in_ok-check.was in
    let jobs = few_jobs a.h a.booked.now n a.minutes.now a.allowed.now c.check.ensures c.in_ok-check.was in
    omega (arith, c.count_bookings.ensures, some, jobs)

pub overflow_add-size : goal.overflow_add-size
overflow_add-size c =
    let n = c.max-n.result in
    let a = c.args in
    let some = bookings-few a.h a.booked.now n a.minutes.now a.allowed.now c.check.ensures c.in_ok-check.was in
    let jobs = few_jobs a.h a.booked.now n a.minutes.now a.allowed.now c.check.ensures c.in_ok-check.was in
    omega (arith, c.count_bookings.ensures, some, jobs)

pub overflow_add-size-2 : goal.overflow_add-size-2
overflow_add-size-2 c =
    let n = c.max-n.result in
    let a = c.args in
    let some = bookings-few a.h a.booked.now n a.minutes.now a.allowed.now c.check.ensures c.in_ok-check.was in
    let jobs = few_jobs a.h a.booked.now n a.minutes.now a.allowed.now c.check.ensures c.in_ok-check.was in
    omega (arith, c.count_bookings.ensures, some, jobs)

pub returns-then-out-size : goal.returns-then-out-size
unfolding output
returns-then-out-size c =
    let n = c.max-n in
    let a = c.args in
    let start = ap (λ k. 10 + 7 * k) c.count_bookings.ensures in
    let returned = no_room a.h a.booked.now n.result a.minutes.now a.allowed.now
    c.check.ensures c.in_ok-check.was _ (length a.out.now) start c.if-out-size.true in
    (rw (← n.ensures) returned, refl)

pub put_jobs-requires : goal.put_jobs-requires
put_jobs-requires c =
    let n = c.max-n in
    let a = c.args in
    let start = 10 + 7 * c.count_bookings.result in
    let size = same_len_mid 10 (start - 10) c.put_head.new.out c.put_bookings.new.out
    c.put_bookings.auto.out in
    let fit = minutes_ready a.h a.booked.now n.result a.minutes.now a.allowed.now
    c.check.ensures c.in_ok-check.was in
    (few_jobs a.h a.booked.now n.result a.minutes.now a.allowed.now c.check.ensures c.in_ok-check.was, omega (arith, size, c.put_head.auto.out), fit)

pub returns-in_err-check : goal.returns-in_err-check
unfolding output
returns-in_err-check c =
    let n = c.max-n in
    let a = c.args in
    let returned = refused a.h a.booked.now n.result a.minutes.now a.allowed.now
    c.check.ensures (length a.out.now) c.in_err-check.was in
    let p = err_from_is_err_and c.from_residual.result c.from_residual.ensures.1 in
    rw (p.1, p.2) (rw (← n.ensures) returned, refl)

pub returns : goal.returns
unfolding output
returns c =
    let n = c.max-n in
    let a = c.args in
    let out = a.out.now in
    let booked = a.booked.now in
    let ms = a.minutes.now in
    let bs = a.allowed.now in
    let e = c.check.ensures in
    let ok = c.in_ok-check.was in
    let start = 10 + 7 * c.count_bookings.result in
    let is-start = ap (λ k. 10 + 7 * k) c.count_bookings.ensures in
    let ready = head_ready a.h booked n.result ms bs e ok in
    let returned = all-written a.h booked n.result ms bs e ok start (length out) is-start c.if-out-size.false in
    let headed = c.put_head.new.out in
    let part-size : start - 10 ≡ 7 * length (bookings booked) = omega (arith, c.count_bookings.ensures) in
    let part = c.put_bookings.ensures ∙ bookings-put a.h.benches booked headed
    (few_benches a.h booked n.result ms bs e ok) (bookings-ready a.h booked n.result ms bs e ok) part-size
    (omega arith) in
    let size = same_len_mid 10 (start - 10) headed c.put_bookings.new.out
    c.put_bookings.auto.out in
    let frames = booking_frames (bookings booked) in
    let whole = ap (λ (ys : List ℕ). take 10 headed ++ (ys ++ post_of 10 (start - 10) headed)) part ∙ ap
    (λ (rest : List ℕ). take 10 headed ++ (frames ++ rest)) (Post-is 10 start headed (omega arith)) ∙ sym
    (append_assoc (take 10 headed) frames (drop start headed)) in
    let sheet = sheet_put out a.h booked ms bs n.result is-start c.if-out-size.false
    (c.put_head.ensures ∙ head_fits a.h out ready (omega arith)) whole
    c.put_jobs.ensures
    (c.put_end.ensures ∙ end_fits _ _
    (omega (arith, size, c.put_head.auto.out, c.put_jobs.auto))) in
    (rw (← n.ensures) returned, rw (← n.ensures) sheet)
