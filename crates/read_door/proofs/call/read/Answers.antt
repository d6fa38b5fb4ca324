-- A sheet that is read holds 64 booked numbers, and at most 512 jobs in tables of 512 entries. The numbers of its head,
-- the booked ones and those of its jobs are what is shown.
use native.Mathlib.Omega.{arith}
use Rattle.read_door.proofs.ReadSteps.{stored-accepted, fault_shown, no_room, all_shown}
use Rattle.read_door.proofs.call.read.Goals as goal

pub returns-in-Err : goal.returns-in-Err
returns-in-Err c =
    let whole = fault_shown c.args.sheet.now c.args.contents.now c.read.ensures c.in-Err.is c.fault_word.ensures in
    record { word = whole.0; table = whole.1 }

pub overflow_mul-n : goal.overflow_mul-n
overflow_mul-n c = omega (arith, (stored-accepted c.args.sheet.now c.read.ensures c.in-Ok.is).few_jobs)

pub overflow_add-n : goal.overflow_add-n
overflow_add-n c = omega (arith, (stored-accepted c.args.sheet.now c.read.ensures c.in-Ok.is).few_jobs)

pub returns-then-contents-n : goal.returns-then-contents-n
returns-then-contents-n c =
    let held = stored-accepted c.args.sheet.now c.read.ensures c.in-Ok.is in
    let whole = no_room c.args.sheet.now c.args.contents.now c.in-Ok.s held c.if-contents-n.true
    c.fault_word-then-contents-n.ensures in
    record { word = whole.0; table = whole.1 }

pub put_jobs-requires : goal.put_jobs-requires
put_jobs-requires c =
    let held = stored-accepted c.args.sheet.now c.read.ensures c.in-Ok.is in
    omega (arith, held, c.put_head.auto.contents, c.put_booked.auto.contents, c.if-contents-n.false)

pub returns : goal.returns
returns c =
    let held = stored-accepted c.args.sheet.now c.read.ensures c.in-Ok.is in
    let whole = all_shown c.args.sheet.now c.args.contents.now c.in-Ok.s held c.if-contents-n.false
    c.put_head.ensures c.put_booked.ensures c.put_jobs.ensures in
    record { word = whole.0; table = whole.1 }
