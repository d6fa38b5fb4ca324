-- A sheet that is read holds 64 booked numbers, and at most 512 jobs in tables of 512 entries. The numbers of its head,
-- the booked ones and those of its jobs are what is shown.
use native.Mathlib.Omega.{arith}
use Rattle.read_door.proofs.ReadSteps.{stored-accepted, fault_shown, no_room, all_shown}
use Rattle.inspect.proofs.yinqocha_inspect.Goals as goal

pub returns-in-Err : goal.returns-in-Err
returns-in-Err c =
    fault_shown c.args.sheet.now c.args.table.now c.read.ensures c.in-Err.is c.fault_word.ensures

pub overflow_mul-n : goal.overflow_mul-n
overflow_mul-n c = omega (arith, (stored-accepted c.args.sheet.now c.read.ensures c.in-Ok.is).few_jobs)

pub overflow_add-n : goal.overflow_add-n
overflow_add-n c = omega (arith, (stored-accepted c.args.sheet.now c.read.ensures c.in-Ok.is).few_jobs)

pub returns-then-table-n : goal.returns-then-table-n
returns-then-table-n c =
    let held = stored-accepted c.args.sheet.now c.read.ensures c.in-Ok.is in
    no_room c.args.sheet.now c.args.table.now c.in-Ok.s held c.if-table-n.true
    c.fault_word-then-table-n.ensures

pub put_jobs-requires : goal.put_jobs-requires
put_jobs-requires c =
    let held = stored-accepted c.args.sheet.now c.read.ensures c.in-Ok.is in
    omega (arith, held, c.put_head.auto.table, c.put_booked.auto.table, c.if-table-n.false)

pub returns : goal.returns
returns c =
    let held = stored-accepted c.args.sheet.now c.read.ensures c.in-Ok.is in
    all_shown c.args.sheet.now c.args.table.now c.in-Ok.s held c.if-table-n.false
    c.put_head.ensures c.put_booked.ensures c.put_jobs.ensures
