-- The two lists that were loaded are the first 513 entries of each, and the comparison gives the same for them as
-- for all.
use Rattle.tables.proofs.TableSteps.{empty, room, loaded_front}
use Rattle.compare_door.proofs.CompareSteps.{same_word, different_word, fault_word_lem}
use Rattle.compare_door.proofs.call.compare.Goals as goal

pub returns-in-Same : goal.returns-in-Same
returns-in-Same c =
    let one = loaded_front c.args.first.now empty c.load-n.result room c.load-n.ensures.counted c.load-n.ensures.loaded in
    let two =
    loaded_front c.args.second.now empty c.load-m.result room c.load-m.ensures.counted c.load-m.ensures.loaded in
    same_word c.args.sheet.now c.args.first.now c.args.second.now one two c.compare.ensures c.in-Same.is

pub returns-in-Different : goal.returns-in-Different
returns-in-Different c =
    let one = loaded_front c.args.first.now empty c.load-n.result room c.load-n.ensures.counted c.load-n.ensures.loaded in
    let two =
    loaded_front c.args.second.now empty c.load-m.result room c.load-m.ensures.counted c.load-m.ensures.loaded in
    different_word c.args.sheet.now c.args.first.now c.args.second.now one two
    c.compare.ensures c.in-Different.is

pub returns-in-Fault : goal.returns-in-Fault
returns-in-Fault c =
    let one = loaded_front c.args.first.now empty c.load-n.result room c.load-n.ensures.counted c.load-n.ensures.loaded in
    let two =
    loaded_front c.args.second.now empty c.load-m.result room c.load-m.ensures.counted c.load-m.ensures.loaded in
    fault_word_lem c.args.sheet.now c.args.first.now c.args.second.now one two c.compare.ensures
    c.in-Fault.is c.fault_word.ensures
