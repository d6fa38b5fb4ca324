-- `check_share`: at each return the tests that led there decide fault 8 (TestLaws).
use Rattle.checks.proofs.TestLaws.{share_fault-p, share_fault-q, share_fault-zero, share_fault-low, share_fault-high, share_fault-sound}
use Rattle.checks.proofs.tests.check_share.Goals as goal

pub returns-then-h-ge128 : goal.returns-then-h-ge128
returns-then-h-ge128 c = rw (share_fault-p c.args.h c.if-h-ge128.true)

pub returns-then-h-ge128-2 : goal.returns-then-h-ge128-2
returns-then-h-ge128-2 c = rw (share_fault-q c.args.h c.if-h-ge128-2.true)

pub returns-then-h-eq0 : goal.returns-then-h-eq0
returns-then-h-eq0 c = rw (share_fault-zero c.args.h c.if-h-eq0.true)

pub returns-then-h : goal.returns-then-h
returns-then-h c =
    let at-args = c.args in
    rw (share_fault-low at-args.h c.if-h.true)

pub returns-then-h-2 : goal.returns-then-h-2
returns-then-h-2 c =
    let at-args = c.args in
    rw (share_fault-high at-args.h c.if-h-2.true)

pub returns : goal.returns
returns c =
    let at-if3 = c.if-h-eq0 in
    let at-if2 = c.if-h-ge128-2 in
    let at-if1 = c.if-h-ge128 in
    let at-args = c.args in
    rw (share_fault-sound at-args.h at-if1.false at-if2.false at-if3.false c.if-h.false
    c.if-h-2.false)
