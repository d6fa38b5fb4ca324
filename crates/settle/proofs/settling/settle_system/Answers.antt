-- By cases on the balance (SettleRun).
use Rattle.std.proofs.Common.{rules}
use Rattle.settle.proofs.SettleRun.{system-shown, settle-tree, some_cycle, settle-cycle}
use Rattle.settle.proofs.settling.settle_system.Goals as goal

pub returns-then-eq : goal.returns-then-eq
returns-then-eq c = λ b weight dirs R D l.
    let X = system-shown b c.args.n c.args.low.now c.args.high.now weight R dirs c.args.dir.now D c.args.v
    c.with-alone.result c.spread-system.result l c.with-alone.ensures c.spread-system.ensures in
    settle-tree b c.args.n c.args.low.now c.args.high.now weight R dirs c.args.dir.now D c.args.v l
    c.spread-system.result X c.set_balance.ensures c.with-alone.result (search (c.if-eq.true, c.eq.ensures, rules)) c.with-alone.ensures
    (λ ms M. c.follow.ensures b weight dirs ms R D M)

pub returns-in_default : goal.returns-in_default
returns-in_default c = λ b weight dirs R D l.
    let X = system-shown b c.args.n c.args.low.now c.args.high.now weight R dirs c.args.dir.now D c.args.v
    c.with-alone.result c.spread-system.result l c.with-alone.ensures c.spread-system.ensures in
    absurd (some_cycle b c.args.n c.args.low.now c.args.high.now weight R dirs c.args.dir.now D c.args.v l
    c.spread-system.result X c.set_balance.ensures (search (c.if-eq.false, c.eq.ensures, rules)) c.first_inside.ensures c.in_default.is)

pub returns : goal.returns
returns c = λ b weight dirs R D l.
    let X = system-shown b c.args.n c.args.low.now c.args.high.now weight R dirs c.args.dir.now D c.args.v
    c.with-alone.result c.spread-system.result l c.with-alone.ensures c.spread-system.ensures in
    settle-cycle b c.args.n c.args.low.now c.args.high.now weight R dirs c.args.dir.now D c.args.v l
    c.spread-system.result X c.set_balance.ensures c.with.result (search (c.if-eq.false, c.eq.ensures, rules)) c.first_inside.ensures
    c.in-Some.is c.at.ensures c.turn-u.ensures.0 c.turn-u.ensures.1 c.with.ensures
    (λ x ms E M. c.follow-2.ensures b weight x ms R E M)
