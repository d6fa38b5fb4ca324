-- `check_head`: at each return the tests that led there decide fault 7; fault 8 is `check_share`'s.
use borrow.Author.Tests.{eq-eqb, ne_eqb, lt-ltb, le-ltb, le-leb, lt-leb}
use mathlib.Core.Bool.{or-true}
use Rattle.checks.proofs.tests.check_head.Goals as goal

pub returns-then-h-eq0 : goal.returns-then-h-eq0
returns-then-h-eq0 c = rw (eq-eqb c.args.h.benches 0 c.if-h-eq0.true)

pub returns-then-h-gt64 : goal.returns-then-h-gt64
returns-then-h-gt64 c = simp (lt-ltb 64 c.args.h.benches c.if-h-gt64.true, or-true)

pub returns-then-h-ge1073741824 : goal.returns-then-h-ge1073741824
returns-then-h-ge1073741824 c =
    let at-args = c.args in
    simp (le-leb 1073741824 at-args.h.target c.if-h-ge1073741824.true, or-true)

pub returns : goal.returns
returns c =
    let at-if2 = c.if-h-gt64 in
    let at-if1 = c.if-h-eq0 in
    let at-args = c.args in
    rw (
      ne_eqb at-args.h.benches 0 at-if1.false,
      le-ltb 64 at-args.h.benches at-if2.false,
      lt-leb
          1073741824 at-args.h.target c.if-h-ge1073741824.false,
    ) c.check_share.ensures
