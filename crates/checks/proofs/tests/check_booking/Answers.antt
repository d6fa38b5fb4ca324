-- `check_booking`: at each return the tests that led there decide which of the faults 14 and 15 is first.
use mathlib.Core.Path.{◌≡◌, sym, ◌∙◌}
use mathlib.Core.Bool.{true, false, or-true}
use lib.Dec.{leb}
use borrow.Author.Tests.{le-leb, lt-leb}
use Rattle.bits.specs.Bits.{is_set}
use Rattle.checks.proofs.tests.check_booking.Goals as goal

pub returns-then-benches-b : goal.returns-then-benches-b
returns-then-benches-b c =
    let a = c.args in
    rw (le-leb a.benches a.b.bench c.if-benches-b.true)

pub returns-then-b-ge1048576 : goal.returns-then-b-ge1048576
returns-then-b-ge1048576 c =
    let a = c.args in
    rw (le-leb 1048576 a.b.minutes c.if-b-ge1048576.true, or-true (leb a.benches a.b.bench))

pub returns-then-has : goal.returns-then-has
returns-then-has c =
    let at-if1 = c.if-benches-b in
    let a = c.args in
    let again : is_set 64 a.had a.b.bench ≡ true = sym c.has.ensures ∙ c.if-has.true in
    rw (
      lt-leb a.benches a.b.bench at-if1.false,
      lt-leb 1048576 a.b.minutes c.if-b-ge1048576.false,
      again,
    )

pub returns : goal.returns
returns c =
    let at-if1 = c.if-benches-b in
    let a = c.args in
    let first : is_set 64 a.had a.b.bench ≡ false = sym c.has.ensures ∙ c.if-has.false in
    rw (
      lt-leb a.benches a.b.bench at-if1.false,
      lt-leb 1048576 a.b.minutes c.if-b-ge1048576.false,
      first,
    )
