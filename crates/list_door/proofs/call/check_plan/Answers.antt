-- By cases on the room and on the answer (ListSteps). The list that is checked is the first 513 entries.
use Rattle.tables.proofs.TableSteps.{empty, room, loaded_front}
use Rattle.list_door.proofs.ListSteps.{short_called, passed_called, not_passed_called, fault_called}
use Rattle.list_door.proofs.call.check_plan.Goals as goal

pub returns-then-answer-lt16 : goal.returns-then-answer-lt16
returns-then-answer-lt16 c =
    let whole = short_called c.args.sheet.now c.args.places.now c.args.answer.now c.if-answer-lt16.true
    c.short_fault.ensures c.fault_word.ensures in
    record { called = whole.0; claim = whole.1 }

pub returns-in-Passed : goal.returns-in-Passed
returns-in-Passed c =
    let whole = passed_called c.args.sheet.now c.args.places.now c.args.answer.now c.if-answer-lt16.false
    (loaded_front c.args.places.now empty c.load-n.result room c.load-n.ensures.counted c.load-n.ensures.loaded)
    c.check_list.ensures.equation c.in-Passed.is c.put_front.ensures in
    record { called = whole.0; claim = whole.1 }

pub returns-in-NotPassed : goal.returns-in-NotPassed
returns-in-NotPassed c =
    let whole = not_passed_called c.args.sheet.now c.args.places.now c.args.answer.now
    c.if-answer-lt16.false
    (loaded_front c.args.places.now empty c.load-n.result room c.load-n.ensures.counted c.load-n.ensures.loaded)
    c.check_list.ensures.equation c.in-NotPassed.is c.put_front-in-NotPassed.ensures in
    record { called = whole.0; claim = whole.1 }

pub returns-in-Fault : goal.returns-in-Fault
returns-in-Fault c =
    let whole = fault_called c.args.sheet.now c.args.places.now c.args.answer.now c.if-answer-lt16.false
    (loaded_front c.args.places.now empty c.load-n.result room c.load-n.ensures.counted c.load-n.ensures.loaded)
    c.check_list.ensures.equation c.in-Fault.is c.fault_word-in-Fault.ensures in
    record { called = whole.0; claim = whole.1 }
