-- Number 17, then 18 (FaultRun).
use Rattle.page_faults.proofs.FaultRun.{by_17, by_18, by_none}
use Rattle.page_faults.proofs.faults.set_verdict.Goals as goal

pub returns-then-bad : goal.returns-then-bad
returns-then-bad c = by_17 c.args.at c.is_unfit-bad.ensures c.meets-shared.ensures c.if-bad.true

pub returns-then-shared : goal.returns-then-shared
returns-then-shared c =
    by_18 c.args.at c.is_unfit-bad.ensures c.meets-shared.ensures c.if-bad.false
    c.if-shared.true

pub returns : goal.returns
returns c =
    by_none c.args.at c.is_unfit-bad.ensures c.meets-shared.ensures
    c.if-bad.false c.if-shared.false
