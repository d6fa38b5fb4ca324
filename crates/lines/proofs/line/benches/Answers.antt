-- The loop's invariant: the benches of the set below b are put.
use native.Mathlib.Omega.{arith}
use mathlib.Core.Path.{◌≡◌, ap}
use Rattle.lines.proofs.BufferLaws.{puts_none, puts_then, puts_as, puts_moved}
use Rattle.lines.proofs.LineSteps.{benches_below, benches_none, bench_in, bench_out}
use Rattle.lines.proofs.line.benches.Goals.{then-set-b-eq1, else-set-b-eq1}
use Rattle.lines.proofs.line.benches.Goals as goal

pub loop-b-init : goal.loop-b-init
loop-b-init c = puts_as (benches_none c.args.set) (puts_none c.args.out.now c.args.at c.min-end.ensures)

pub loop-b-preserved : goal.loop-b-preserved
loop-b-preserved c =
    let set = c.args.set in
    let l = c.loop-b in
    elim c.if-set-b-eq1.branch [
      | then-set-b-eq1 w ↦
          puts_moved w.out-is w.end-is
          (puts_as (bench_in set l.b c.loop-b-test.true w.if-set-b-eq1.true) (puts_then l.invariant w.word-end.ensures))
      | else-set-b-eq1 w ↦ puts_moved w.out-is w.end-is (puts_as (bench_out set l.b w.if-set-b-eq1.false) l.invariant)
    ]

pub returns : goal.returns
returns c =
    let e : c.loop-b.b ≡ 64 = omega arith in
    puts_as (ap (benches_below c.args.set) e) c.loop-b.invariant
