-- `check_job`: at each return the tests that led there decide which of the faults 9 to 11 is first (TestLaws).
use borrow.Author.Tests.{le-leb, lt-leb}
use native.Mathlib.Omega.{arith}
use Rattle.checks.proofs.TestLaws.{allowed_fault-none, allowed_fault-lacking, allowed_fault-sound, allowed_fault-full}
use borrow.Author.Rules.{rules}
use Rattle.checks.proofs.tests.check_job.Goals as goal

pub returns-then-n-ge512 : goal.returns-then-n-ge512
returns-then-n-ge512 c = rw (le-leb 512 c.args.n c.if-n-ge512.true)

pub returns-then-j-ge1048576 : goal.returns-then-j-ge1048576
returns-then-j-ge1048576 c =
    let a = c.args in
    rw (lt-leb 512 a.n c.if-n-ge512.false, le-leb 1048576 a.j.minutes (omega (arith, c.if-j-ge1048576.true)))

pub returns-then-j-eq0 : goal.returns-then-j-eq0
returns-then-j-eq0 c =
    let at-if1 = c.if-n-ge512 in
    let a = c.args in
    rw (
      lt-leb 512 a.n at-if1.false,
      lt-leb 1048576 a.j.minutes (omega (arith, c.if-j-ge1048576.false)),
      allowed_fault-none a.benches a.j (search rules) c.if-j-eq0.true,
    )

pub returns-then-lacking-ne0 : goal.returns-then-lacking-ne0
returns-then-lacking-ne0 c =
    let at-if2 = c.if-j-ge1048576 in
    let at-if1 = c.if-n-ge512 in
    let a = c.args in
    rw (
      lt-leb 512 a.n at-if1.false,
      lt-leb 1048576 a.j.minutes (omega (arith, at-if2.false)),
      allowed_fault-lacking a.benches a.j (search rules) (omega arith) c.if-lacking-ne0.true,
    )

pub returns-else-lacking-ne0 : goal.returns-else-lacking-ne0
returns-else-lacking-ne0 c =
    let at-if3 = c.if-j-eq0 in
    let at-if2 = c.if-j-ge1048576 in
    let at-if1 = c.if-n-ge512 in
    let a = c.args in
    rw (
      lt-leb 512 a.n at-if1.false,
      lt-leb 1048576 a.j.minutes (omega (arith, at-if2.false)),
      allowed_fault-sound a.benches a.j (search rules) at-if3.false (omega arith) c.if-lacking-ne0.false,
    )

pub returns-else-benches-lt64 : goal.returns-else-benches-lt64
returns-else-benches-lt64 c =
    let at-if2 = c.if-j-ge1048576 in
    let at-if1 = c.if-n-ge512 in
    let a = c.args in
    rw (
      lt-leb 512 a.n at-if1.false,
      lt-leb 1048576 a.j.minutes (omega (arith, at-if2.false)),
      allowed_fault-full a.benches a.j (search rules) c.if-j-eq0.false c.if-benches-lt64.false,
    )
