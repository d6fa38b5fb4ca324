-- By cases on the room and on the answer (SetSteps).
use native.Mathlib.Omega.{arith}
use mathlib.Core.Path.{refl}
use Rattle.answers.specs.declared.check.SetAnswer.TheVariants.{Passed, Long, NotPassed}
use Rattle.set_door.proofs.SetSteps.{Promised, short_called, answer_called, fault_called}
use Rattle.set_door.proofs.call.check_set.Goals.{in-Passed, in-Long, in-NotPassed}
use Rattle.set_door.proofs.call.check_set.Goals as goal

pub returns-then-answer-lt8 : goal.returns-then-answer-lt8
returns-then-answer-lt8 c =
    let whole = short_called c.args.sheet.now c.args.set c.args.answer.now c.ranges.set.fits
    (omega (arith, c.if-answer-lt8.true)) c.short_fault.ensures c.fault_word.ensures in
    record { called = whole.0; claim = whole.1 }

pub returns-in-Fault : goal.returns-in-Fault
returns-in-Fault c =
    let whole = fault_called c.args.sheet.now c.args.set c.args.answer.now c.ranges.set.fits
    (omega (arith, c.if-answer-lt8.false)) c.check_set.ensures.equation
    c.in-Fault.is c.fault_word-in-Fault.ensures in
    record { called = whole.0; claim = whole.1 }

pub returns : goal.returns
returns c =
    let whole : Promised c.args.sheet.now c.args.set c.args.answer.now c.ranges.set.fits c.match-check_set.word.0
    c.put.new.t =
    elim c.match-check_set.branch [
      | in-Passed w ↦
          answer_called c.args.sheet.now c.args.set c.args.answer.now c.ranges.set.fits c.if-answer-lt8.false
          c.check_set.ensures.equation Passed w.in-Passed.is w.word-is refl c.put.ensures
      | in-Long w ↦
          answer_called c.args.sheet.now c.args.set c.args.answer.now c.ranges.set.fits c.if-answer-lt8.false
          c.check_set.ensures.equation (Long _) w.in-Long.is w.word-is refl c.put.ensures
      | in-NotPassed w ↦
          answer_called c.args.sheet.now c.args.set c.args.answer.now c.ranges.set.fits c.if-answer-lt8.false
          c.check_set.ensures.equation NotPassed w.in-NotPassed.is w.word-is refl c.put.ensures
    ] in
    record { called = whole.0; claim = whole.1 }
