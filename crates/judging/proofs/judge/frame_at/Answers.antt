-- `frame_at`: each test tells the frame cut short, of another version, or of version 1, and then the judge is asked about it.
use native.Mathlib.Omega.{arith}
use mathlib.Core.Path.{◌≡◌}
use Rattle.bits.specs.Bits.{is_set}
use Rattle.judging.proofs.HeaderLaws.{at_short, at_foreign, at-ours}
use Rattle.judging.proofs.judge.frame_at.Goals as goal

pub returns-then-rest-end : goal.returns-then-rest-end
returns-then-rest-end c =
    let a = c.args in
    let r = c.read-header.ensures in
    at_short a.stage a.benches a.n (is_set 64 a.had) a.at a.rest.now _ _ _
    (record { version_is = r.0; kind_is = r.1; size_is = r.2 }) (omega arith)

pub returns-then-header-ne-VERSION : goal.returns-then-header-ne-VERSION
returns-then-header-ne-VERSION c =
    let at_read = c.read-header in
    let a = c.args in
    let r = at_read.ensures in
    at_foreign a.stage a.benches a.n (is_set 64 a.had) a.at a.rest.now _ _ _
    (record { version_is = r.0; kind_is = r.1; size_is = r.2 }) (omega arith) (λ e. omega arith)

pub returns : goal.returns
returns c =
    let at_read = c.read-header in
    let a = c.args in
    let r = at_read.ensures in
    let ours : at_read.result.version ≡ 1 = omega arith in
    at-ours a.stage a.benches a.n (is_set 64 a.had) a.at a.rest.now _ _ _
    (record { version_is = r.0; kind_is = r.1; size_is = r.2 }) (omega arith) ours _ c.judge.ensures
