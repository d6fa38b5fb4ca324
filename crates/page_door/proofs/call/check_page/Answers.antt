-- By cases on the room and on the answer (PageSteps). The page that is checked is the first 65 entries.
use native.Mathlib.Omega.{arith}
use mathlib.Core.Path.{refl}
use Rattle.answers.specs.declared.check.PageAnswer.TheVariants.{Passed, Long, NotPassed}
use Rattle.tables.proofs.TableSteps.{loaded_front}
use Rattle.page_door.proofs.PageSteps.{Promised, empty, room, short_called, answer_called, fault_called}
use Rattle.page_door.proofs.call.check_page.Goals.{in-Passed, in-Long, in-NotPassed}
use Rattle.page_door.proofs.call.check_page.Goals as goal

pub returns-then-answer-lt8 : goal.returns-then-answer-lt8
returns-then-answer-lt8 c =
    let whole = short_called c.args.sheet.now c.args.page.now c.args.answer.now (omega (arith, c.if-answer-lt8.true))
    c.short_fault.ensures c.fault_word.ensures in
    record { called = whole.0; claim = whole.1 }

pub returns-in-Fault : goal.returns-in-Fault
returns-in-Fault c =
    let front = loaded_front c.args.page.now empty c.load-n.result room c.load-n.ensures.counted
    c.load-n.ensures.loaded in
    let whole = fault_called c.args.sheet.now c.args.page.now c.args.answer.now c.if-answer-lt8.false front
    c.check_page.ensures.equation c.in-Fault.is c.fault_word-in-Fault.ensures in
    record { called = whole.0; claim = whole.1 }

pub returns : goal.returns
returns c =
    let front = loaded_front c.args.page.now empty c.load-n.result room c.load-n.ensures.counted
    c.load-n.ensures.loaded in
    let whole : Promised c.args.sheet.now c.args.page.now c.args.answer.now c.match-check_page.word.0 c.put.new.t =
    elim c.match-check_page.branch [
      | in-Passed w ↦
          answer_called c.args.sheet.now c.args.page.now c.args.answer.now c.if-answer-lt8.false front
          c.check_page.ensures.equation Passed w.in-Passed.is w.word-is refl c.put.ensures
      | in-Long w ↦
          answer_called c.args.sheet.now c.args.page.now c.args.answer.now c.if-answer-lt8.false front
          c.check_page.ensures.equation (Long _) w.in-Long.is w.word-is refl c.put.ensures
      | in-NotPassed w ↦
          answer_called c.args.sheet.now c.args.page.now c.args.answer.now c.if-answer-lt8.false front
          c.check_page.ensures.equation (NotPassed _) w.in-NotPassed.is w.word-is refl c.put.ensures
    ] in
    record { called = whole.0; claim = whole.1 }
