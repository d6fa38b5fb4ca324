-- `judge_booking`: at each return the tests that led there decide which of the faults 4 to 6, 14 and 15 is first.
use Rattle.std.specs.Prelude.{Ok}
use Rattle.std.proofs.lemmas.Result.{err_from_is_err_and}
use Rattle.judging.specs.declared.judge.Frame.TheVariants.{Booking}
use Rattle.fields.specs.Tests.{Verdict, first_fault, booking_faults}
use borrow.Author.Tests.{eq-eqb, ne_eqb, lt-ltb, le-ltb}
use mathlib.Core.Path.{sym, ap, ◌∙◌}
use lib.ListN.{length}
use Rattle.bits.specs.Bits.{is_set}
use Rattle.bits.specs.Layout.{field}
use Rattle.fields.specs.Format.{booking_layout, booking_of}
use Rattle.judging.specs.Steps.{frame_of, sound}
use Rattle.judging.specs.FrameTests.{frame_faults}
use Rattle.judging.proofs.StageLaws.{misplaced-unless_open}
use Rattle.judging.proofs.judge.judge_booking.Goals as goal

pub returns-then-n-gt0 : goal.returns-then-n-gt0
unfolding frame_of frame_faults
returns-then-n-gt0 c = rw (c.in-Open.is, lt-ltb 0 c.args.n c.if-n-gt0.true)

pub returns-then-body-ne-BOOKING_LENGTH : goal.returns-then-body-ne-BOOKING_LENGTH
unfolding frame_of frame_faults
returns-then-body-ne-BOOKING_LENGTH c =
    let a = c.args in
    rw (
      c.in-Open.is,
      le-ltb 0 a.n c.if-n-gt0.false,
      ne_eqb (length a.body.now) 4 c.if-body-ne-BOOKING_LENGTH.true,
    )

pub returns-then-booking_spare-ne0 : goal.returns-then-booking_spare-ne0
unfolding frame_of frame_faults
returns-then-booking_spare-ne0 c =
    let a = c.args in
    rw (
      c.in-Open.is,
      le-ltb 0 a.n c.if-n-gt0.false,
      eq-eqb (length a.body.now) 4 c.if-body-ne-BOOKING_LENGTH.false,
      ne_eqb (field booking_layout 2 a.body.now) 0 (λ e. c.if-booking_spare-ne0.true (c.booking_spare.ensures ∙ e)),
    )

pub returns-in_err-check_booking : goal.returns-in_err-check_booking
unfolding frame_of frame_faults
returns-in_err-check_booking c =
    let at-if3 = c.if-booking_spare-ne0 in
    let at-spare = c.booking_spare in
    let at-if2 = c.if-body-ne-BOOKING_LENGTH in
    let at-if1 = c.if-n-gt0 in
    let a = c.args in
    let body = a.body.now in
    let read = c.read_booking-b.ensures in
    let p = err_from_is_err_and c.from_residual.result c.from_residual.ensures.1 in
    rw (
      p.1,
      p.2,
      c.in-Open.is,
      le-ltb 0 a.n at-if1.false,
      eq-eqb (length body) 4 at-if2.false,
      eq-eqb (field booking_layout 2 body) 0 (sym at-spare.ensures ∙ at-if3.false),
    )
    (ap (λ (v : Verdict). sound v (Booking (booking_of body)))
    (sym c.in_err-check_booking.was ∙ c.check_booking.ensures
    ∙ ap (λ x. first_fault (booking_faults a.benches (is_set 64 a.had) x a.at)) read))

pub returns : goal.returns
unfolding frame_of frame_faults
returns c =
    let at-if3 = c.if-booking_spare-ne0 in
    let at-spare = c.booking_spare in
    let at-if2 = c.if-body-ne-BOOKING_LENGTH in
    let at-if1 = c.if-n-gt0 in
    let a = c.args in
    let body = a.body.now in
    let read = c.read_booking-b.ensures in
    rw (
      c.in-Open.is,
      le-ltb 0 a.n at-if1.false,
      eq-eqb (length body) 4 at-if2.false,
      eq-eqb (field booking_layout 2 body) 0 (sym at-spare.ensures ∙ at-if3.false),
    )
    (ap (λ b. Ok (Booking b)) read
    ∙ ap (λ (v : Verdict). sound v (Booking (booking_of body)))
    (sym c.in_ok-check_booking.was ∙ c.check_booking.ensures
    ∙ ap (λ x. first_fault (booking_faults a.benches (is_set 64 a.had) x a.at)) read))

pub returns-in_default : goal.returns-in_default
unfolding frame_of frame_faults
returns-in_default c =
    let a = c.args in
    rw (misplaced-unless_open a.stage a.n c.in_default.not-Open).2
